-- What a port that reports its octets shows of a stretch of calls.
use Rattle.std.proofs.Common.{◌≡◌, ℕ, List, ◌++◌, sym, ◌∙◌, ap, Option, Some, None, append-nil}
use Rattle.port_122.specs.Outside.{Outside, Exchange, Grows, Loses, IsUsedUp, AtEnd}

grown : (a b : Option (List ℕ)) (xs ys more : List ℕ) → a ≡ Some xs → b ≡ Some ys → Grows a b more → ys ≡ xs ++ more
grown a b xs ys more p q r =
    let at : Grows (Some xs) (Some ys) more = rw (p, q) at r in at

all_lost : (a b : Option (List ℕ)) (xs less : List ℕ) → a ≡ Some xs → Loses a b less → IsUsedUp b → less ≡ xs
all_lost a None xs less p r e =
    let at : Loses (Some xs) None less = rw p at r in absurd at
all_lost a (Some ys) xs less p r e =
    let at : xs ≡ less ++ ys = rw p at r in sym (at ∙ ap (λ zs. less ++ zs) e ∙ append-nil less)

-- the octets given were reported
pub given_known : {a b : Outside} {t g w : List ℕ} {Q : ℕ → ℕ → Type 0} (xs ys : List ℕ) →
    Exchange a b t g w Q → a.given ≡ Some xs → b.given ≡ Some ys → ys ≡ xs ++ g
given_known {a = a} {b = b} {g = g} xs ys p before after = grown a.given b.given xs ys g before after p.given

-- if a read was at the end, the octets taken are the whole input
pub end_known : {a b : Outside} {t g w : List ℕ} {Q : ℕ → ℕ → Type 0} (xs : List ℕ) →
    Exchange a b t g w Q → a.rest ≡ Some xs → AtEnd b → t ≡ xs
end_known {a = a} {b = b} {t = t} xs p before e = all_lost a.rest b.rest xs t before p.rest e
