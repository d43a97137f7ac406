use Rattle.std.proofs.Common.{◌≡◌, sym}
use Rattle.std.proofs.lemmas.Result.{err_from_is_err_and}
use Rattle.segment_defs.specs.Reading.{head_in}
use Rattle.segment_defs.proofs.ReadHeads.{read_fits}
use Rattle.segment_defs.proofs.HeadTests.{passed, refused, refused_presence, refused_support, refused_depths, refused_values, passed_all}
use Rattle.segment_head.proofs.read.read_head.Goals as goal

pub returns-in_err-check_presence-clause-value : goal.returns-in_err-check_presence-clause-value
returns-in_err-check_presence-clause-value c =
    let p = err_from_is_err_and c.from_residual.result c.from_residual.ensures.1 in
    rw (p.1, p.2) (refused_presence c.args.octets.now _ (refused _ _ tt c.in_err-check_presence.ensures.tests))

pub returns-in_err-check_support-clause-value : goal.returns-in_err-check_support-clause-value
returns-in_err-check_support-clause-value c =
    let p = err_from_is_err_and c.from_residual-in_err-check_support.result c.from_residual-in_err-check_support.ensures.1 in
    rw (p.1, p.2) (refused_support c.args.octets.now _ (passed _ _ tt c.in_ok-check_presence.ensures.tests)
    (rw c.after_part_1-later.ensures.rest at (refused _ _ tt c.in_err-check_support.ensures)))

pub returns-in_err-check_depths-clause-value : goal.returns-in_err-check_depths-clause-value
returns-in_err-check_depths-clause-value c =
    let p = err_from_is_err_and c.from_residual-in_err-check_depths.result c.from_residual-in_err-check_depths.ensures.1 in
    let head : c.head_of-head.result ≡ head_in c.args.octets.now = rw c.after_part_1-later.ensures.rest at c.head_of-head.ensures in
    let s = rw c.after_part_1-later.ensures.rest at (passed _ _ tt c.in_ok-check_support.ensures) in
    rw (p.1, p.2) (refused_depths c.args.octets.now _ (passed _ _ tt c.in_ok-check_presence.ensures.tests) s
    (rw head at (refused _ _ tt c.in_err-check_depths.ensures)))

pub returns-in_err-check_values-clause-value : goal.returns-in_err-check_values-clause-value
returns-in_err-check_values-clause-value c =
    let p = err_from_is_err_and c.from_residual-in_err-check_values.result c.from_residual-in_err-check_values.ensures.1 in
    let head : c.head_of-head.result ≡ head_in c.args.octets.now = rw c.after_part_1-later.ensures.rest at c.head_of-head.ensures in
    let s = rw c.after_part_1-later.ensures.rest at (passed _ _ tt c.in_ok-check_support.ensures) in
    let d = rw head at (passed _ _ tt c.in_ok-check_depths.ensures) in
    rw (p.1, p.2) (refused_values c.args.octets.now _ (passed _ _ tt c.in_ok-check_presence.ensures.tests) s d
    (rw head at (refused _ _ tt c.in_err-check_values.ensures)))

pub returns-clause-value : goal.returns-clause-value
returns-clause-value c =
    let head : c.head_of-head.result ≡ head_in c.args.octets.now = rw c.after_part_1-later.ensures.rest at c.head_of-head.ensures in
    let s = rw c.after_part_1-later.ensures.rest at (passed _ _ tt c.in_ok-check_support.ensures) in
    let d = rw head at (passed _ _ tt c.in_ok-check_depths.ensures) in
    rw head (passed_all c.args.octets.now (passed _ _ tt c.in_ok-check_presence.ensures.tests) s d (rw head at (passed _ _ tt c.in_ok-check_values.ensures)))

pub returns-clause-fits : goal.returns-clause-fits
returns-clause-fits c =
    let head : c.head_of-head.result ≡ head_in c.args.octets.now = rw c.after_part_1-later.ensures.rest at c.head_of-head.ensures in
    let s = rw c.after_part_1-later.ensures.rest at (passed _ _ tt c.in_ok-check_support.ensures) in
    let d = rw head at (passed _ _ tt c.in_ok-check_depths.ensures) in
    rw head (read_fits c.args.octets.now (head_in c.args.octets.now)
    (sym (passed_all c.args.octets.now (passed _ _ tt c.in_ok-check_presence.ensures.tests) s d (rw head at (passed _ _ tt c.in_ok-check_values.ensures)))))
