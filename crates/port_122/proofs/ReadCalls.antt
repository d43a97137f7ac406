-- Read calls after a stretch of calls.
use Rattle.std.proofs.Common.{◌≡◌, ◌<◌, ◌≤◌, ◌+◌, ℕ, List, [], ◌++◌, length, take, refl, subst, add-zero}
use Rattle.std.proofs.lemmas.List.{append-nil, take-append-le}
use Rattle.std.proofs.Math.Seq.{take-append-add}
use Rattle.port_122.specs.Outside.{Outside, Exchange, Read, ReadFailed, AtStart, AtEnd, GivenBy, Rose}
use Rattle.port_122.proofs.Stretches.{since_then, since_weaker, rose_since}

-- a stretch, and then one in which nothing is given or noted
pub since_in : {a b c : Outside} {t g w t' : List ℕ} {Q R : ℕ → ℕ → Type 0} →
    Exchange a b t g w Q → Exchange b c t' [] [] R → ((i j : ℕ) → i ≤ length t' → R i j → Q (length t + i) (length g + j)) →
    Exchange a c (t ++ t') g w Q
since_in {a = a} {c = c} {t = t} {g = g} {w = w} {t' = t'} {Q = Q} p q f =
    let both : Exchange a c (t ++ t') (g ++ []) (w ++ []) Q = since_then p q f in
    subst (λ g. Exchange a c (t ++ t') g w Q) (append-nil g) (subst (λ w. Exchange a c (t ++ t') (g ++ []) w Q) (append-nil w) both)

-- a stretch, and then one that only asks at its start, and gives and notes nothing
pub since_asked : {a b c : Outside} {t g w t' : List ℕ} {Q : ℕ → ℕ → Type 0} →
    Exchange a b t g w Q → Exchange b c t' [] [] AtStart → Q (length t) (length g) → Exchange a c (t ++ t') g w Q
since_asked {t = t} {g = g} {Q = Q} p q here = since_in p q
    (λ i j _ r. rw (r.0, r.1, add-zero, add-zero) here)

-- a stretch, and then a read
pub since_read : {a b c : Outside} {t g w piece : List ℕ} {Q : ℕ → ℕ → Type 0} (n : ℕ) →
    Exchange a b t g w Q → Read b c piece n → Q (length t) (length g) → Exchange a c (t ++ take n piece) g w Q
since_read n p q here = since_asked p q.since here

-- a stretch, and then a read that failed
pub since_unread : {a b c : Outside} {t g w : List ℕ} {Q : ℕ → ℕ → Type 0} →
    Exchange a b t g w Q → ReadFailed b c → Q (length t) (length g) → Exchange a c t g w Q
since_unread {a = a} {c = c} {t = t} {g = g} {w = w} {Q = Q} p q here =
    subst (λ t. Exchange a c t g w Q) (append-nil t) (since_asked p q.since here)

-- a read that failed is a fault of the whole stretch
pub unread_rose : {a b c : Outside} {t g w : List ℕ} {Q : ℕ → ℕ → Type 0} →
    Exchange a b t g w Q → ReadFailed b c → Rose a.read_faults c.read_faults
unread_rose p q = rose_since p.faults.reads q.rose

-- a stretch, and then a read that saw the end
pub since_end : {a b c : Outside} {t g w piece : List ℕ} {Q : ℕ → ℕ → Type 0} →
    Exchange a b t g w Q → Read b c piece 0 → 0 < length piece → Q (length t) (length g) → Exchange a c t g w Q × AtEnd c
since_end {a = a} {c = c} {t = t} {g = g} {w = w} {Q = Q} p q some here =
    (subst (λ t. Exchange a c t g w Q) (append-nil t) (since_read 0 p q here), q.at_end refl some)

-- All octets that are due for the octets taken were given, and the stretch that follows asks only if nothing
-- more is due. Then the whole stretch asks only if the octets that are due were given.
pub since_prompt : {a b c : Outside} {t g w t' : List ℕ} {R : ℕ → ℕ → Type 0} (given_for : List ℕ → List ℕ) →
    Exchange a b t g w (GivenBy given_for t) → Exchange b c t' [] [] R →
    ((i j : ℕ) → i ≤ length t' → R i j → length g + j ≡ length (given_for (t ++ take i t'))) →
    Exchange a c (t ++ t') g w (GivenBy given_for (t ++ t'))
since_prompt {t = t} {t' = t'} given_for p q f =
    since_in
    (since_weaker p (λ i j le r. rw (take-append-le i t t' le) r)) q
    (λ i j le r. rw (take-append-add t t' i) (f i j le r))
