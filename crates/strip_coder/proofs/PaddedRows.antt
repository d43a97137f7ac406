-- The padded row in its room.
use Rattle.std.proofs.Common.{◌≡◌, ◌∙◌, sym, ap, subst, ℕ, List, ℤ, length, Vec, vec_len}
use Rattle.std.specs.Vec.{with_items}
use Rattle.std.proofs.lemmas.List.{with_items_is}
use Rattle.raster_rows.specs.Padding.{IsPadded}

pub pads : {A : Type 0} (width : ℕ) (v : Vec ℤ A) (lent after : List ℤ) → lent ≡ v.items → length after ≡ v.len → IsPadded width lent after →
    IsPadded width v.items (with_items v after).items
pads width v lent after e long pad = subst (IsPadded width v.items) (sym (with_items_is v after long)) (subst (λ xs. IsPadded width xs after) e pad)

pub long_as : {A : Type 0} (v : Vec ℤ A) (after : List ℤ) (n : ℕ) → length after ≡ v.len → vec_len v ≡ n → length (with_items v after).items ≡ n
long_as v after n long e = ap length (with_items_is v after long) ∙ long ∙ e
