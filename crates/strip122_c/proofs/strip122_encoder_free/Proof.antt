-- `strip122_encoder_free` meets its contract: the value at the pointer is lent for a lifetime that is made for the call of `free`, and lies
-- there again once it is over.
use Rattle.std.proofs.Common.{[], ◌∷◌, refl, ap, MutBor}
use Rattle.std.proofs.raw_atomic.Walks.{proved}
use base.Fraction.{full_share}
use base.Logic.{id⊢}
use base.Fml.{Lft, flft}
use mir.Val.{vunit, vptr}
use prog.Wp.{WpFn}
use types.Kit.{Item, ‵, raw, ◌⊛◌, some, later, prop, ◌$◌, ◌∵◌, !, qed, done, move, keep, drop, use1, use2, split, join, fsplit, fjoin, feq_i, feq_l, pick}
use types.Kit.{await, regoal, suffices, group}
use types.Run.{enter, addr, of_opd, unit_lit, no_more, and_then, returns, stop}
use types.ByLocal.{alloc_all, pass_all, free_all, look_at, get, through, sets, lands_as}
use contract.Monad.{fact}
use contract.Running.{tables}
use denote.Builtin.{unit}
use denote.RattleType.{Valss, owns, flat}
use denote.RawPtr.{Ptr, RawPtr, block_ptr, rawptr_vals, rawptr_Tells, lies_at, in_a_block}
use denote.Signature.{types_at}
use denote.Steps.{nothing, heard, only}
use denote.Triple.Call.{calls_at}
use denote.Triple.Clauses.{Lasts, lasts}
use denote.Triple.Entry.{alive}
use denote.Triple.Spec.{triple_of}
use denote.Triple.Table.{framed}
use denote.Triple.Walked.{Stays, walk_of, ends_at}
use Rattle.strip122_c.proofs.Lends.{all_handed, all_go, but_first, lends, lies, keeps}
use Rattle.strip122_c.specs.RowCalls.{Closes}
use Rattle.strip122_c.specs.declared.encoder.Strip122Encoder.{Strip122Encoder}
use Rattle.strip122_c.specs.contracts.encoder.Strip122Encoder.{the_row as T}
use Rattle.strip122_c.specs.contracts.strip122_encoder_free as f
use Rattle.strip122_c.proofs.strip122_encoder_free.Statement.{statement}
use Rattle.strip122_c.proofs.strip122_encoder_free.Code as code
use Rattle.strip122_c.specs.contracts.encoder.free as g
use Rattle.strip122_c.proofs.encoder.free.Met.{met}

abbrev stayed : Stays f.ended.signature.params f.ended.kept
stayed = all_handed f.ended.signature.params f.ended.kept

pub strip122_encoder_free_spec : {M : Type 1} → statement M
strip122_encoder_free_spec 𝓤 𝓛 𝓜 𝓡 wired =
    let c = f.clauses 𝓛 𝓜.mem 𝓡.returns in let W = walk_of 𝓛 f.ended stayed c in let 𝓣 = tables 𝓤 𝓛.H 𝓜 𝓡 𝓡.env in
    proved 𝓛 f.ended stayed c 𝓜 𝓡 (all_go 𝓛 0 f.ended.signature.params f.ended.kept)
    f.Key.name code.function (code.unfolded 𝓤 𝓛.H 𝓜 𝓡 wired)
    (λ κs. (rawptr_vals, tt))
    (λ κs. (rawptr_Tells, tt))
    (λ κs qs bounds a x are.
    let vss : Valss (but_first (types_at f.signature.params κs)) = tt in
    let y : Ptr → W.Ghost = λ p. ((κs, qs, bounds, (p, a.1), (rawptr_vals p, vss)), x) in
    let G = triple_of 𝓛 g.signature (g.spec 𝓛 𝓜.mem 𝓡.returns) in
    let toks : Item 𝓤 = raw (alive 𝓛 f.signature κs qs) in
    qed 𝓛 ((toks ⊛ (‵ (RawPtr.own_val a.0 (rawptr_vals a.0)) ⊛ ‵ (owns (but_first (types_at f.signature.params κs)) a.1 vss))) ∷ ‵
    (lies_at T full_share a.0 x) ∷ []) ∵
    split ! $ move ! (1 ∷ []) $ split ! $ drop ! $ move ! (2 ∷ []) $
    -- [the value at the pointer; what the other parameters own; the tokens]
    in_a_block ! a.0 (λ p. lies_at T full_share p x) (id⊢ 𝓤 _) (λ b o e.
    regoal ! (λ p. prop (WpFn 𝓤 𝓛.H 𝓣.C 𝓣.Λ code.function (flat (types_at f.signature.params κs) (y p).0.4) (W.post (y p)))) e refl $
    enter ! _ _ _ _ _ $ alloc_all ! (λ l. pass_all ! refl ((tt, tt), tt) $
    sets ! (addr ! (through ! refl (stop !))) refl (tt, tt) $
    lends T b o ! tt x (λ α γ.
    -- [the loan; what the lender keeps; the loan's token; what the other parameters own; the tokens]
    let κ : Lft = α ∷ [] in
    let r : MutBor Strip122Encoder = record { ref_ptr = (b, o); ghost_name = γ; now = x } in
    let z : G.Ghost = (((κ, κs), (full_share, qs), bounds, (r, a.1), (vptr b o ∷ [], vss)), tt) in
    move ! (0 ∷ 3 ∷ []) $ join ! $ move ! (2 ∷ 3 ∷ []) $ join ! $ join ! $ nothing ! $ move ! (1 ∷ 0 ∷ []) $ use2 𝓛 (raw (G.pre z)) (id⊢ 𝓤 _) $
    calls_at ! (framed 𝓤 𝓛.H 𝓜 𝓣) G (met 𝓤 𝓛 𝓜 𝓡 (code.calls-strip122_c::encoder::free 𝓡.env wired)) z
    (and_then ! (get ! refl) (no_more !)) (λ v.
    use1 𝓛 (later (some (λ (n : Unit {0}). ((‵ (flft κ full_share) ⊛ toks) ⊛ ‵ (unit.own_val n (v ∷ []))) ⊛ some
    (λ (ws : Lasts g.ended z.0.0 z.0.3). ‵ (lasts g.ended z.0.0 z.0.3 ws) ⊛ raw (fact 𝓤 (Closes ws.0)))))) (id⊢ 𝓤 _) $
    await ! tt $ pick ! (λ n. split ! $ split ! $ split ! $ move ! (3 ∷ []) $ pick ! (λ ws. split ! $ move ! (1 ∷ []) $ heard ! _ (λ closes. fsplit ! $
    -- [the loan's last value; what is said of the other parameters; the loan's token; the tokens; the result; what the lender keeps]
    move ! (2 ∷ 5 ∷ 0 ∷ []) $ lies T b o ! tt ws.0 $
    -- [the value at the pointer; what is said of the other parameters; the tokens; the result]
    move ! (3 ∷ []) $ feq_l ! (λ is. lands_as ! (ap only is) refl (tt, tt) $
    sets ! (of_opd ! (unit_lit !)) refl (tt, tt) $
    returns ! (look_at ! 0 refl) $ free_all ! refl $ feq_i ! _ (vunit ∷ []) _ refl $ keep ! (1 ∷ 0 ∷ 2 ∷ 3 ∷ []) $
    suffices ! _ (ends_at 𝓛 f.ended stayed c (y (block_ptr b o)) vunit tt (tt, ws.1) (tt, tt)) $
    keeps T b o ! (λ new. Closes new) ws.0 closes $
    -- [the handle; the result; what is said of the other parameters; the tokens]
    nothing ! $ move ! (0 ∷ 3 ∷ []) $ fjoin ! $ keep ! (3 ∷ 0 ∷ 2 ∷ 1 ∷ []) $ group ! 3 $ done !)))))))))
