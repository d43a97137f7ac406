-- `strip122_encoder_end` meets its contract: the value at the pointer is lent for a lifetime that is made for the call of `end`, and lies
-- there again once it is over.
use Rattle.std.proofs.Common.{ℕ, [], ◌∷◌, refl, w16, w32, MutBor}
use Rattle.std.proofs.raw_atomic.Walks.{proved}
use base.Fraction.{full_share}
use base.Logic.{id⊢, emp}
use base.Fml.{Lft, flft}
use mir.Syntax.{named}
use mir.Val.{vptr}
use prog.Wp.{WpFn}
use types.Kit.{Item, ‵, raw, ◌⊛◌, some, later, prop, ◌$◌, ◌∵◌, !, qed, done, move, keep, drop, use0, use1, use2, split, join, fsplit, fjoin, pick, await}
use types.Kit.{regoal, suffices, group}
use types.Run.{enter, addr, from, fld, hop, no_more, and_then, returns, stop}
use types.Part.{agg, sub, whole}
use types.ByLocal.{alloc_all, pass_all, free_all, look_at, look_in_at, get, get_in, through, sets, lands_as}
use contract.Monad.{fact, fact_i}
use contract.Running.{tables}
use denote.Builtin.{u8, u32}
use denote.Laws.{Is, shows}
use denote.Plain.{uint_vals, uint_Tells, uint_Lawful}
use denote.RattleType.{Valss, owns, flat}
use denote.RawPtr.{Ptr, RawPtr, block_ptr, rawptr_vals, rawptr_Tells, lies_at, in_a_block}
use denote.Ref.{mut_vals, mut_Tells}
use denote.Signature.{types_at}
use denote.Slice.{mut_slice_vals, mut_slice_Tells, mut_slice_Lawful}
use denote.Steps.{nothing, heard, peeks}
use denote.Triple.Call.{calls_at}
use denote.Triple.Clauses.{Lasts, lasts}
use denote.Triple.Entry.{alive}
use denote.Triple.Spec.{triple_of}
use denote.Triple.Table.{framed}
use denote.Triple.Walked.{Stays, walk_of, ends_at}
use Rattle.strip122_c.proofs.Lends.{all_handed, all_go, but_first, lends, lies, keeps}
use Rattle.strip122_c.specs.RowCalls.{EndsInto, IsReady}
use Rattle.strip122_c.specs.declared.encoder.Strip122Encoder.{Strip122Encoder}
use Rattle.strip122_c.specs.contracts.encoder.Strip122Encoder.{the_row as T}
use Rattle.strip122_c.specs.contracts.encoded.Strip122Encoded.{the_row as Report}
use Rattle.strip122_c.specs.contracts.strip122_encoder_end as f
use Rattle.strip122_c.proofs.strip122_encoder_end.Statement.{statement}
use Rattle.strip122_c.proofs.strip122_encoder_end.Code as code
use Rattle.strip122_c.specs.contracts.encoder.end as g
use Rattle.strip122_c.proofs.encoder.end.Met.{met}

abbrev stayed : Stays f.ended.signature.params f.ended.kept
stayed = all_handed f.ended.signature.params f.ended.kept

pub strip122_encoder_end_spec : {M : Type 1} → statement M
strip122_encoder_end_spec 𝓤 𝓛 𝓜 𝓡 wired =
    let c = f.clauses 𝓛 𝓜.mem 𝓡.returns in let W = walk_of 𝓛 f.ended stayed c in let 𝓣 = tables 𝓤 𝓛.H 𝓜 𝓡 𝓡.env in
    proved 𝓛 f.ended stayed c 𝓜 𝓡 (all_go 𝓛 2 f.ended.signature.params f.ended.kept)
    f.Key.name code.function (code.unfolded 𝓤 𝓛.H 𝓜 𝓡 wired)
    (λ κs. (rawptr_vals, (uint_vals w16, (mut_slice_vals, (mut_vals, tt)))))
    (λ κs. (rawptr_Tells, (uint_Tells w16, (mut_slice_Tells (named 0) κs.0 u8, (mut_Tells (named 1) κs.1.0 Report, tt)))))
    (λ κs qs bounds a x are.
    let vss : Valss (but_first (types_at f.signature.params κs)) = (uint_vals w16 a.1.0, (mut_slice_vals a.1.1.0, (mut_vals a.1.1.1.0, tt))) in
    let y : Ptr → W.Ghost = λ p. ((κs, qs, bounds, (p, a.1), (rawptr_vals p, vss)), x) in
    let G = triple_of 𝓛 g.signature (g.spec 𝓛 𝓜.mem 𝓡.returns) in
    let toks : Item 𝓤 = raw (alive 𝓛 f.signature κs qs) in
    qed 𝓛 ((toks ⊛ (‵ (RawPtr.own_val a.0 (rawptr_vals a.0)) ⊛ ‵ (owns (but_first (types_at f.signature.params κs)) a.1 vss))) ∷
    (‵ (lies_at T full_share a.0 x) ⊛ raw (fact 𝓤 (IsReady x))) ∷ []) ∵
    move ! (1 ∷ []) $ split ! $ move ! (1 ∷ []) $ heard ! _ (λ is_ready. move ! (1 ∷ []) $ split ! $ move ! (1 ∷ []) $ split ! $ drop ! $ move ! (2 ∷ []) $
    -- [the value at the pointer; what the other parameters own; the tokens]
    in_a_block ! a.0 (λ p. lies_at T full_share p x) (id⊢ 𝓤 _) (λ b o e.
    regoal ! (λ p. prop (WpFn 𝓤 𝓛.H 𝓣.C 𝓣.Λ code.function (flat (types_at f.signature.params κs) (y p).0.4) (W.post (y p)))) e refl $
    enter ! _ _ _ _ _ $ alloc_all ! (λ l. pass_all ! refl
    ((tt, tt), (((uint_Lawful 𝓛 w16).typed a.1.0 _ are.1.0).0, (((mut_slice_Lawful 𝓛 (named 0) κs.0 u8).typed a.1.1.0 _ are.1.1.0).0, ((tt, tt), tt)))) $
    sets ! (addr ! (through ! refl (stop !))) refl (tt, tt) $
    sets ! (addr ! (from ! (fld ! refl (hop ! (look_in_at ! 3 (sub ! 0 refl (whole !))) (stop !))))) refl (tt, tt) $
    sets ! (agg ! (and_then ! (get ! refl) (and_then ! (get_in ! (fld ! refl (stop !)) (sub ! 1 refl (whole !))) (no_more !)))) refl
    ((mut_slice_Lawful 𝓛 (named 0) κs.0 u8).typed a.1.1.0 _ are.1.1.0).0 $
    sets ! (addr ! (through ! refl (stop !))) refl (tt, tt) $
    lends T b o ! tt x (λ α γ.
    -- [the loan; what the lender keeps; the loan's token; what the other parameters own; the tokens]
    let κ : Lft = α ∷ [] in
    let r : MutBor Strip122Encoder = record { ref_ptr = (b, o); ghost_name = γ; now = x } in
    let z : G.Ghost = (((κ, κs), (full_share, qs), bounds, (r, a.1), (vptr b o ∷ [], vss)), tt) in
    move ! (0 ∷ 3 ∷ []) $ join ! $ move ! (2 ∷ 3 ∷ []) $ join ! $ join ! $ use0 𝓛 (raw (fact 𝓤 (IsReady x))) (fact_i 𝓤 (IsReady x) (emp 𝓤) is_ready) $ move
    ! (1 ∷ 0 ∷ []) $ use2 𝓛 (raw (G.pre z)) (id⊢ 𝓤 _) $
    calls_at ! (framed 𝓤 𝓛.H 𝓜 𝓣) G (met 𝓤 𝓛 𝓜 𝓡 (code.calls-strip122_c::encoder::end 𝓡.env wired)) z
    (and_then ! (get ! refl) (and_then ! (get ! refl) (and_then ! (get ! refl) (and_then ! (get ! refl) (no_more !))))) (λ v.
    use1 𝓛 (later (some (λ (n : ℕ). ((‵ (flft κ full_share) ⊛ toks) ⊛ ‵ (u32.own_val n (v ∷ []))) ⊛ some
    (λ (ws : Lasts g.ended z.0.0 z.0.3). ‵ (lasts g.ended z.0.0 z.0.3 ws) ⊛ raw
    (fact 𝓤 (EndsInto a.1.0 x ws.0 a.1.1.0.now ws.1.1.0 a.1.1.1.0.now ws.1.1.1.0 n)))))) (id⊢ 𝓤 _) $
    await ! tt $ pick ! (λ n. split ! $ split ! $ split ! $ move ! (3 ∷ []) $ pick ! (λ ws. split ! $ move ! (1 ∷ []) $ heard ! _ (λ ends. fsplit ! $
    -- [the loan's last value; what is said of the other parameters; the loan's token; the tokens; the result; what the lender keeps]
    move ! (2 ∷ 5 ∷ 0 ∷ []) $ lies T b o ! tt ws.0 $
    -- [the value at the pointer; what is said of the other parameters; the tokens; the result]
    move ! (3 ∷ []) $ peeks ! u32 (Is u32) (shows 𝓛 u32) n (v ∷ []) (λ is. lands_as ! refl refl ((uint_Lawful 𝓛 w32).typed n _ is).0 $
    returns ! (look_at ! 0 refl) $ free_all ! refl $ keep ! (1 ∷ 0 ∷ 2 ∷ 3 ∷ []) $
    suffices ! _ (ends_at 𝓛 f.ended stayed c (y (block_ptr b o)) v n (tt, ws.1) (tt, (tt, (tt, (tt, tt))))) $
    keeps T b o ! (λ new. EndsInto a.1.0 x new a.1.1.0.now ws.1.1.0 a.1.1.1.0.now ws.1.1.1.0 n) ws.0 ends $
    -- [the handle; the result; what is said of the other parameters; the tokens]
    nothing ! $ move ! (0 ∷ 3 ∷ []) $ fjoin ! $ keep ! (3 ∷ 0 ∷ 2 ∷ 1 ∷ []) $ group ! 3 $ done !))))))))))
