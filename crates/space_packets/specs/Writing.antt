-- Octets that are given to a begun text, and then more.
use Rattle.std.proofs.Common.{◌≡◌, ◌+◌, ℕ, List, [], ◌++◌, take, sym, ◌∙◌, ap, subst, arith, append_assoc}
use Rattle.port_122.specs.Outside.{Outside, Exchange, NoRead}
use Rattle.port_122.proofs.Stretches.{since_start, since_out, rose_since}
use Rattle.space_packets.specs.declared.stage.Text.{Text}
use Rattle.space_packets.specs.Parts.{text_at}
use Rattle.space_packets.specs.Progress.{Progress, IsOpen, full_count, full_packet, first_octets, written, after}
use Rattle.space_packets.specs.Writes.{Continues, StopsEarly}
use Rattle.space_packets.specs.Going.{written_none, after_none, count_both, first_both, written_both, after_both, broken_both, packet_past}

pub goes_nowhere : {t : Text} {v : Progress} → (p : Outside) → IsOpen t v → Continues t p p v v []
goes_nowhere {t = t} {v = v} p going = record {
  out = subst (λ gave. Exchange p p [] gave [] NoRead) (sym (written_none going)) (since_start p NoRead);
  valid = sym (after_none going);
}

pub goes_both : {t : Text} {p q r : Outside} {u v w : Progress} (xs ys : List ℕ) → IsOpen t u →
    Continues t p q u v xs → Continues (text_at t (full_count u xs)) q r v w ys → Continues t p r u w (xs ++ ys)
goes_both {t = t} {p = p} {q = q} {r = r} {u = u} {v = v} {w = w} xs ys going first next =
    let s = text_at t (full_count u xs) in
    let second : Continues s q r (after t u xs) w ys = subst (λ v. Continues s q r v w ys) first.valid next in
    record {
      out = subst (λ gave. Exchange p r [] gave [] NoRead) (sym (written_both going xs ys)) (since_out first.out second.out);
      valid = second.valid ∙ sym (after_both going xs ys);
    }

pub breaks_after : {t : Text} {p q r : Outside} {u v w : Progress} (xs ys : List ℕ) → IsOpen t u →
    Continues t p q u v xs → StopsEarly (text_at t (full_count u xs)) q r v w ys → StopsEarly t p r u w (xs ++ ys)
breaks_after {t = t} {p = p} {q = q} {r = r} {u = u} {v = v} {w = w} xs ys going first next =
    let s = text_at t (full_count u xs) in
    let m = full_count u xs in
    let second : StopsEarly s q r (after t u xs) w ys = subst (λ v. StopsEarly s q r v w ys) first.valid next in
    let k = second.count in
    let out : written t u xs ++ (first_octets s (after t u xs) ys k ++ take second.some (full_packet s (after t u xs) ys k)) ≡ first_octets t u (xs ++ ys)
    (m + k) ++ take second.some (full_packet t u (xs ++ ys) (m + k)) =
    sym (append_assoc (written t u xs) (first_octets s (after t u xs) ys k) (take second.some (full_packet s (after t u xs) ys k)))
    ∙ ap (λ prefix. prefix ++ take second.some (full_packet s (after t u xs) ys k)) (sym (first_both t u xs ys k))
    ∙ ap (λ packet. first_octets t u (xs ++ ys) (m + k) ++ take second.some packet) (sym (packet_past t u xs ys k)) in
    record {
      count = m + k;
      few = omega (arith, count_both going xs ys, second.few);
      some = second.some;
      out = subst (λ gave. Exchange p r [] gave [] NoRead) out (since_out first.out second.out);
      rose = rose_since first.out.faults.writes second.rose;
      valid = second.valid ∙ sym (broken_both t u xs ys k);
    }
