-- The first header that is kept.
use Rattle.std.proofs.Common.{◌≡◌, ◌≢◌, ◌∙◌, ℕ, List, [], ◌∷◌, ◌++◌, append_assoc, append-nil, refl, sym, ap, subst, Option, Some, None}
use Rattle.base_122.specs.declared.geometry.Geometry.{Geometry}
use Rattle.packet_defs.specs.Streams.{whole_packets}
use Rattle.stream_defs.specs.declared.fate.FateState.{FateState}
use Rattle.stream_defs.specs.Fates.{fresh, after_all, geometry_in}
use Rattle.stream_defs.proofs.ChosenLaws.{after_all-append}
use Rattle.packet_assembly.proofs.Images.{geometry_known}
use Rattle.packet_assembly.proofs.ReachedRows.{geometry_more}
use Rattle.strip_decoder.proofs.Asking.{leading_packets}
use Rattle.strip122_c.specs.WholeDecoding.{IsFirstHead, ReportsFirst}

abbrev geometry_after : (apid : ℕ) → List (List ℕ) → Option Geometry
geometry_after apid packets = (after_all apid fresh packets).geometry

-- a geometry that was reported isn't lost
not_lost : (apid : ℕ) (before later : List (List ℕ)) (g : Geometry) → geometry_after apid before ≡ Some g → geometry_after apid (before ++ later) ≡ None → ⊥
not_lost apid before later g some none =
    let more = geometry_more apid before later g some in
    let both : Some more.0 ≡ None = sym more.1 ∙ ap (λ (s : FateState). s.geometry) (sym (after_all-append apid fresh before later)) ∙ none in cc

-- after these packets it is one
first_two : (apid : ℕ) (pre p q ls ms : List (List ℕ)) (x y : List ℕ) (g h : Geometry) → p ++ x ∷ ls ≡ q ++ y ∷ ms → geometry_after apid (pre ++ p) ≡ None →
    geometry_after apid (pre ++ q) ≡ None →
    geometry_after apid ((pre ++ p) ++ x ∷ []) ≡ Some g → geometry_after apid ((pre ++ q) ++ y ∷ []) ≡ Some h → g ≡ h
first_two apid pre [] [] ls ms x y g h same no_p no_q yes_p yes_q =
    let heads : x ≡ y = cc in
    let both : Some g ≡ Some h = sym yes_p ∙ ap (λ z. geometry_after apid ((pre ++ []) ++ z ∷ [])) heads ∙ yes_q in cc
first_two apid pre [] (b ∷ q) ls ms x y g h same no_p no_q yes_p yes_q =
    let heads : x ≡ b = cc in
    let parts : ((pre ++ []) ++ x ∷ []) ++ q ≡ pre ++ b ∷ q = ap (λ zs. (zs ++ x ∷ []) ++ q) (append-nil pre) ∙ append_assoc pre (x ∷ []) q
    ∙ ap (λ z. pre ++ z ∷ q) heads in
    absurd (not_lost apid ((pre ++ []) ++ x ∷ []) q g yes_p (ap (geometry_after apid) parts ∙ no_q))
first_two apid pre (a ∷ p) [] ls ms x y g h same no_p no_q yes_p yes_q =
    let heads : y ≡ a = cc in
    let parts : ((pre ++ []) ++ y ∷ []) ++ p ≡ pre ++ a ∷ p = ap (λ zs. (zs ++ y ∷ []) ++ p) (append-nil pre) ∙ append_assoc pre (y ∷ []) p
    ∙ ap (λ z. pre ++ z ∷ p) heads in
    absurd (not_lost apid ((pre ++ []) ++ y ∷ []) p h yes_q (ap (geometry_after apid) parts ∙ no_p))
first_two apid pre (a ∷ p) (b ∷ q) ls ms x y g h same no_p no_q yes_p yes_q =
    let heads : a ≡ b = cc in
    let tails : p ++ x ∷ ls ≡ q ++ y ∷ ms = cc in
    let left : pre ++ a ∷ p ≡ (pre ++ a ∷ []) ++ p = sym (append_assoc pre (a ∷ []) p) in
    let right : pre ++ b ∷ q ≡ (pre ++ a ∷ []) ++ q = ap (λ z. pre ++ z ∷ q) (sym heads) ∙ sym (append_assoc pre (a ∷ []) q) in
    first_two apid (pre ++ a ∷ []) p q ls ms x y g h tails
    (ap (geometry_after apid) (sym left) ∙ no_p) (ap (geometry_after apid) (sym right) ∙ no_q)
    (ap (λ zs. geometry_after apid (zs ++ x ∷ [])) (sym left) ∙ yes_p) (ap (λ zs. geometry_after apid (zs ++ y ∷ [])) (sym right) ∙ yes_q)

pub first_one : (apid : ℕ) (packets : List (List ℕ)) (g h : Geometry) → IsFirstHead apid packets g → IsFirstHead apid packets h → g ≡ h
first_one apid packets g h a b =
    first_two apid [] a.before b.before a.later b.later a.packet b.packet g h
    (sym (append_assoc a.before (a.packet ∷ []) a.later) ∙ sym a.packets_are ∙ b.packets_are ∙ append_assoc b.before (b.packet ∷ []) b.later) a.none b.none
    a.geometry b.geometry

-- and stays it
pub first_more : {apid : ℕ} {packets : List (List ℕ)} {g : Geometry} (more : List (List ℕ)) → IsFirstHead apid packets g → IsFirstHead apid (packets ++ more) g
first_more more first = record {
  before = first.before;
  packet = first.packet;
  later = first.later ++ more;
  packets_are = ap (λ zs. zs ++ more) first.packets_are ∙ append_assoc (first.before ++ first.packet ∷ []) first.later more;
  none = first.none;
  geometry = first.geometry;
}

-- there is a geometry then
pub some_first : (apid : ℕ) (packets : List (List ℕ)) (g : Geometry) → IsFirstHead apid packets g → geometry_after apid packets ≡ None → ⊥
some_first apid packets g first none = not_lost apid (first.before ++ first.packet ∷ []) first.later g first.geometry
    (ap (geometry_after apid) (sym first.packets_are) ∙ none)

-- if it has the height, it is that of all
pub known_first : (apid : ℕ) (octets : List ℕ) (g : Geometry) → ReportsFirst apid octets g → geometry_in apid octets ≡ Some g
known_first apid octets g reports =
    let first = reports.0 in
    let before = first.before ++ first.packet ∷ [] in
    ap (geometry_after apid) first.packets_are ∙ ap (λ (s : FateState). s.geometry) (after_all-append apid fresh before first.later)
    ∙ geometry_known apid before first.later g first.geometry reports.1

pub reports_more : (apid : ℕ) (octets more : List ℕ) (g : Geometry) → ReportsFirst apid octets g → ReportsFirst apid (octets ++ more) g
reports_more apid octets more g reports =
    let beyond = leading_packets octets more in
    (subst (λ packets. IsFirstHead apid packets g) (sym beyond.1) (first_more beyond.0 reports.0), reports.1)
