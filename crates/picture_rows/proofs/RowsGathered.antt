-- Rows of a picture that are gathered one after another, and then given.
use Rattle.std.proofs.Common.{◌≡◌, ◌<◌, ◌≤◌, ◌+◌, ◌-◌, ◌*◌, ℕ, ℤ, List, [], ◌++◌, length, take, map, refl, sym, ap, subst, ◌∙◌, arith, ⊎_elim, append_assoc}
use Rattle.std.proofs.Common.{length-append, Result, Ok, Err, append-nil}
use Rattle.std.proofs.Math.Seq.{take-append-add}
use Rattle.port_122.specs.Outside.{Outside, Exchange, NoRead, WritesAll}
use Rattle.port_122.proofs.Stretches.{since_start, since_out, rose_since}
use Rattle.base_122.specs.declared.geometry.Geometry.{Geometry}
use Rattle.raster_rows.specs.Pixels.{pixel_octets, clamped}
use Rattle.raster_rows.specs.declared.gathered.GatheredRows.{GatheredRows}
use Rattle.raster_rows.specs.Gathered.{depth_of, is_signed, width_of, Adds, GivesPart}
use Rattle.stream_defs.specs.Settled.{rows_through}
use Rattle.picture_rows.specs.Prefixes.{rows_of}
use Rattle.picture_rows.specs.Pictures.{PictureState, IsSized}
use Rattle.picture_rows.specs.Steps.{RowsStop, Represented, HasGatheredRow, HasGatheredSome, HasNoneLeft, StopsInRow, GivesRows, IsFor}
use Rattle.picture_rows.proofs.RowGives.{prefix-part, same_then}
use Rattle.picture_rows.proofs.RowsOut.{next_rows}

-- rows of the form of the picture have its octets
pub form_of : (g : Geometry) (rows : GatheredRows) (row : List ℤ) → IsFor g rows →
    pixel_octets (depth_of rows) (map (clamped (depth_of rows) (is_signed rows)) (take (width_of rows) row)) ≡ pixel_octets g.depth
    (map (clamped g.depth g.signed) (take g.width row))
form_of g rows row form =
    ap (λ d. pixel_octets d (map (clamped d (is_signed rows)) (take (width_of rows) row))) form.depth
    ∙ ap (λ s. pixel_octets g.depth (map (clamped g.depth s) (take (width_of rows) row))) form.signed
    ∙ ap (λ w. pixel_octets g.depth (map (clamped g.depth g.signed) (take w row))) form.width

-- each row leaves fewer
pub row_less : {a b : Outside} {v w : List ℕ} {x y : PictureState} → HasGatheredRow a b v w x y → 8 * y.at.row - y.at.next < 8 * x.at.row - x.at.next
row_less given =
    let next = given.next in
    let row = given.same.row in
    ⊎_elim (λ (l : _). omega (arith, l, next, row)) (λ (r : _). omega (arith, r.1, next, row)) given.could.made

-- no row yet
pub gathered_nothing : (a : Outside) (p : PictureState) (waiting : List ℕ) → IsSized p → waiting ≡ [] → HasGatheredSome a a waiting p p
gathered_nothing a p waiting sized none = record {
  sized = sized;
  same = record { geometry = refl; row = refl; column = refl };
  goes = record {
    octets = [];
    adds = record { gave = []; out = since_start a NoRead; all = none };
    follows = λ numbers valid. valid;
    given = λ numbers valid. append-nil (rows_of p.geometry numbers p.at.next);
  };
}

-- octets are added, and then more of them
adds_then : {a b c : Outside} {u v w x y : List ℕ} → Adds a b u v x → Adds b c v w y → Adds a c u w (x ++ y)
adds_then {u = u} {v = v} {w = w} {x = x} {y = y} p q = record {
  gave = p.gave ++ q.gave;
  out = since_out p.out q.out;
  all = append_assoc p.gave q.gave w ∙ ap (λ zs. p.gave ++ zs) q.all ∙ sym (append_assoc p.gave v y) ∙ ap (λ zs. zs ++ y) p.all ∙ append_assoc u x y;
}

-- one row more
pub gathered_then : {a b c : Outside} {v w : List ℕ} {x y z : PictureState} → HasGatheredSome a b v x y → HasGatheredRow b c v w y z → HasGatheredSome a c w x z
gathered_then {x = x} {y = y} {z = z} u v = record {
  sized = v.sized;
  same = same_then u.same v.same;
  goes = record {
    octets = u.goes.octets ++ v.goes.octets;
    adds = adds_then u.goes.adds v.goes.adds;
    follows = λ numbers before. v.goes.follows numbers (u.goes.follows numbers before);
    given = λ numbers before.
        let there : rows_of x.geometry numbers y.at.next ++ v.goes.octets ≡ rows_of x.geometry numbers z.at.next =
        subst (λ g. rows_of g numbers y.at.next ++ v.goes.octets ≡ rows_of g numbers z.at.next) u.same.geometry
        (v.goes.given numbers (u.goes.follows numbers before)) in
        sym (append_assoc (rows_of x.geometry numbers x.at.next) u.goes.octets v.goes.octets) ∙ ap (λ zs. zs ++ v.goes.octets) (u.goes.given numbers before)
        ∙ there;
  };
}

-- a prefix of what waits and of more octets is given, which continue the rows
broken_of : {a b c : Outside} {w : List ℕ} {x y : PictureState} (more : List ℕ) → HasGatheredSome a b w x y → GivesPart b c (w ++ more) →
    ((numbers : ℕ → ℕ → ℤ) → Represented y numbers → (rest : List ℕ) × (rows_of y.geometry numbers (rows_through y.geometry y.at.row) ≡ rows_of y.geometry
    numbers y.at.next ++ (more ++ rest))) →
    RowsStop (Represented x) x.at.row a c x
broken_of {w = w} {x = x} {y = y} more u part goes =
    let gave = u.goes.adds.gave in
    let octets = u.goes.octets in
    let all : gave ++ (w ++ more) ≡ octets ++ more = sym (append_assoc gave w more) ∙ ap (λ zs. zs ++ more) u.goes.adds.all in
    let some : take (length gave + part.count) (octets ++ more) ≡ gave ++ take part.count (w ++ more) =
    ap (take (length gave + part.count)) (sym all) ∙ take-append-add gave (w ++ more) part.count in
    let long = ap length all in
    let within : length gave + part.count ≤ length (octets ++ more) = omega (arith, part.within, long, length-append gave (w ++ more)) in
    record {
      gave = gave ++ take part.count (w ++ more);
      out = since_out u.goes.adds.out part.out;
      rose = rose_since u.goes.adds.out.faults.writes part.rose;
      given = λ numbers before.
          let g = x.geometry in
          let later = goes numbers (u.goes.follows numbers before) in
          let through : rows_of g numbers (rows_through g x.at.row) ≡ rows_of g numbers y.at.next ++ (more ++ later.0) =
          subst (λ (r : ℕ). rows_of g numbers (rows_through g r) ≡ rows_of g numbers y.at.next ++ (more ++ later.0)) u.same.row
          (subst (λ (h : Geometry). rows_of h numbers (rows_through h y.at.row) ≡ rows_of h numbers y.at.next ++ (more ++ later.0)) u.same.geometry later.1) in
          let whole : rows_of g numbers (rows_through g x.at.row) ≡ rows_of g numbers x.at.next ++ ((octets ++ more) ++ later.0) =
          through ∙ ap (λ zs. zs ++ (more ++ later.0)) (sym (u.goes.given numbers before)) ∙ append_assoc (rows_of g numbers x.at.next) octets (more ++ later.0)
          ∙ ap (λ zs. rows_of g numbers x.at.next ++ zs) (sym (append_assoc octets more later.0)) in
          let found = prefix-part g numbers x.at.next (length gave + part.count) (rows_through g x.at.row) (octets ++ more) later.0 whole within in
          (found.0, ap (λ zs. rows_of g numbers x.at.next ++ zs) (sym some) ∙ found.1);
    }

-- a row could not be added
pub gathered_broken : {a b c : Outside} {w : List ℕ} {x y : PictureState} → HasGatheredSome a b w x y → StopsInRow (Represented y) y.at.row b c w y →
    RowsStop (Represented x) x.at.row a c x
gathered_broken u v = broken_of v.octets u v.gives v.given

-- what waited was given, or a prefix of it
pub gathered_given : {T E : Type 0} {a b : Outside} {w : List ℕ} {x y z : PictureState} (c : Outside) (r : Result T E) → HasGatheredSome a b w x y →
    HasNoneLeft y z → WritesAll r b c w → GivesRows r a c x z
gathered_given {a = a} {w = w} {x = x} {y = y} {z = z} c (Ok t) u none out = record {
  current = none.current;
  same = same_then u.same none.same;
  goes = record {
    gave = u.goes.octets;
    out = subst (λ gave. Exchange a c [] gave [] NoRead) u.goes.adds.all (since_out u.goes.adds.out out);
    follows = λ numbers before. none.follows numbers (u.goes.follows numbers before);
    given = λ numbers before. u.goes.given numbers before ∙ ap (rows_of x.geometry numbers) (sym none.next);
  };
}
gathered_given {b = b} {w = w} {y = y} {z = z} c (Err e) u none out =
    let same : w ++ [] ≡ w = append-nil w in
    let part : GivesPart b c w = record { rose = out.0; count = out.1.0; within = out.1.1; out = out.1.2 } in
    broken_of [] u (subst (GivesPart b c) (sym same) part) (λ numbers valid.
    let there : rows_of z.geometry numbers z.at.next ≡ rows_of z.geometry numbers (rows_through z.geometry z.at.row) = next_rows z numbers none.current in
    let here : rows_of y.geometry numbers y.at.next ≡ rows_of y.geometry numbers (rows_through y.geometry y.at.row) =
    subst (λ (g : Geometry). rows_of g numbers y.at.next ≡ rows_of g numbers (rows_through g y.at.row)) none.same.geometry
    (subst (λ (n : ℕ). rows_of z.geometry numbers n ≡ rows_of z.geometry numbers (rows_through z.geometry y.at.row)) none.next
    (subst (λ (r : ℕ). rows_of z.geometry numbers z.at.next ≡ rows_of z.geometry numbers (rows_through z.geometry r)) none.same.row there)) in
    ([], sym here ∙ sym (append-nil _)))
