use Rattle.std.proofs.Common.{rules, arith, ◌≡◌, ◌+◌, ◌-◌, ◌++◌, ◌∙◌, ℕ, ℤ, Bool, List, [], ap, subst, sym, map, take, drop}
use Rattle.std.proofs.lemmas.Grind.{common_steps}
use Rattle.port_122.specs.Outside.{Exchange, NoRead, WritesAll}
use Rattle.port_122.proofs.Stretches.{since_out}
use Rattle.port_122.proofs.Parts.{failed_part}
use Rattle.raster_rows.specs.Pixels.{pixel_octets, clamped}
use Rattle.raster_rows.proofs.PixelLists.{more_spelt, all_spelt}
use Rattle.raster_rows.proofs.writing.give_pixels.Goals as goal

-- the octets of one piece
part_is : (depth : ℕ) (signed : Bool) (values : List ℤ) (done n : ℕ) (octets : List ℕ) →
    octets ≡ pixel_octets depth (map (clamped depth signed) (take (done + n - done) (drop done values))) →
    octets ≡ pixel_octets depth (map (clamped depth signed) (take n (drop done values)))
part_is depth signed values done n octets is = grind (arith, common_steps, map)

pub returns-in_err-write_all : goal.returns-in_err-write_all
returns-in_err-write_all g c =
    let depth = c.args.form.depth in
    let signed = c.args.form.signed in
    let values = c.args.pixels.now in
    let done = c.loop-done.done in
    let n = c.min.result in
    let octets = take c.spell_pixels-count.result c.spell_pixels-count.new.into in
    let before = pixel_octets depth (map (clamped depth signed) (take done values)) in
    let rest = pixel_octets depth (map (clamped depth signed) (drop n (drop done values))) in
    let part = part_is depth signed values done n octets c.spell_pixels-count.ensures.octets in
    let total : pixel_octets depth (map (clamped depth signed) values) ≡ before ++ (octets ++ rest) =
    all_spelt depth signed values done n ∙ ap (λ zs. before ++ (zs ++ rest)) (sym part) in
    subst (λ zs. WritesAll c.from_residual.result (g.X.Port.outside c.args.port.now) (g.X.Port.outside c.write_all.new.port) zs) (sym total)
    (failed_part before octets rest c.from_residual.result c.loop-done.invariant.out c.in_err-write_all.ensures (search rules))

pub loop-done-preserved : goal.loop-done-preserved
loop-done-preserved g c =
    let depth = c.args.form.depth in
    let signed = c.args.form.signed in
    let values = c.args.pixels.now in
    let done = c.loop-done.done in
    let n = c.min.result in
    let octets = take c.spell_pixels-count.result c.spell_pixels-count.new.into in
    let before = pixel_octets depth (map (clamped depth signed) (take done values)) in
    let part = part_is depth signed values done n octets c.spell_pixels-count.ensures.octets in
    let more : pixel_octets depth (map (clamped depth signed) (take (done + n) values)) ≡ before ++ octets =
    more_spelt depth signed values done n ∙ ap (λ zs. before ++ zs) (sym part) in
    record {
      within = search rules;
      out = subst (λ gave. Exchange (g.X.Port.outside c.args.port.now) (g.X.Port.outside c.write_all.new.port) [] gave [] NoRead) (sym more)
          (since_out c.loop-done.invariant.out c.in_ok-write_all.ensures);
    }
