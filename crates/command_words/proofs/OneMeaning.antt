-- Arguments have at most one meaning.
use Rattle.std.proofs.Common.{◌≡◌, ◌<◌, ◌≤◌, ◌+◌, ◌^◌, ℕ, List, [], ◌∷◌, ◌++◌, map, decimal, get_or, refl, sym, ◌∙◌, ap, subst, inl, inr, arith}
use Rattle.std.proofs.Common.{append_assoc, true, false, codes, Some, None, Result, Ok, Err}
use Rattle.std.proofs.lemmas.Fmt.{decimal_injective, decimal_nonempty}
use Rattle.std.proofs.lemmas.List.{get_or_append_left}
use Rattle.std.proofs.lemmas.Bool.Decides.{nat_tests}
use Rattle.base_122.specs.declared.weights.Weights.{Weights as TenWeights}
use Rattle.base_122.specs.declared.setting.Select.TheVariants.{Heuristic, Optimal}
use Rattle.command_words.specs.declared.tables.Task.{Task}
use Rattle.command_words.specs.declared.tables.Key.{Key}
use Rattle.command_words.specs.declared.tables.Form.{Form}
use Rattle.command_words.specs.declared.tables.Form.TheVariants.{Number, Cap, Flag, Stop, Weights, Select}
use Rattle.command_words.specs.declared.values.Value.{Value}
use Rattle.command_words.specs.declared.values.Value.TheVariants.{Number as NumberValue, Cap as CapValue, Flag as FlagValue, StopDc, StopAt}
use Rattle.command_words.specs.declared.values.Value.TheVariants.{Weights as WeightsValue, Select as SelectValue}
use Rattle.command_words.specs.declared.entries.Entry.{Entry}
use Rattle.command_words.specs.declared.command.Command.{Command}
use Rattle.command_words.specs.declared.command.WordFault.{WordFault}
use Rattle.command_words.specs.declared.command.WordFault.TheVariants.{MissingCommand, BadWord, MissingKey, OutOfRange}
use Rattle.command_words.specs.Tables.{row_of, command_named, Finds}
use Rattle.command_words.specs.Values.{value_text, form_of, HasForm}
use Rattle.command_words.specs.Entries.{nothing, with_entry, IsKeyed, IsEntry, WordSays, EntriesSay}
use Rattle.command_words.specs.Words.{named_or_fault, name_said, made_of, RestSays, Says}
use Rattle.command_words.proofs.Separators.{split_one}
use Rattle.command_words.proofs.ValueTexts.{no_dot, digit}
use Rattle.command_words.proofs.KeyTexts.{keyed_one}

-- a number's text doesn't begin with a letter
not_dc : (plane stage : ℕ) → plane < 2 ^ 32 → codes "dc" ≡ decimal plane ++ codes "." ++ decimal stage → ⊥
not_dc plane stage small e =
    let some = decimal_nonempty plane (omega arith) in
    let first = digit plane small 0 some in
    let prefix = get_or_append_left (decimal plane) (codes "." ++ decimal stage) 0 0 some in
    let same = ap (λ xs. get_or xs 0 0) (e ∙ append_assoc (decimal plane) (codes ".") (decimal stage)) in
    omega (arith, first.1, prefix, same)

one_number : (m n : ℕ) → m < 2 ^ 32 → n < 2 ^ 32 → decimal m ≡ decimal n → m ≡ n
one_number m n p q e = decimal_injective m n (omega arith) (omega arith) e

one_cap : (m n : ℕ) → m ≤ 2 ^ 40 → n ≤ 2 ^ 40 → decimal m ≡ decimal n → m ≡ n
one_cap m n p q e = decimal_injective m n (omega arith) (omega arith) e

one_stop : (p s q t : ℕ) → p < 2 ^ 32 → s < 2 ^ 32 → q < 2 ^ 32 → t < 2 ^ 32 →
    decimal p ++ codes "." ++ decimal s ≡ decimal q ++ codes "." ++ decimal t → StopAt p s ≡ StopAt q t
one_stop p s q t in_p in_s in_q in_t e = grind (arith, nat_tests, split_one, decimal, no_dot, append_assoc, codes, one_number)

one_shifts : (xs ys : List ℕ) → map (λ shift. 48 + shift) xs ≡ map (λ shift. 48 + shift) ys → xs ≡ ys
one_shifts [] [] e = refl
one_shifts [] (y ∷ ys) e = absurd (cc)
one_shifts (x ∷ xs) [] e = absurd (cc)
one_shifts (x ∷ xs) (y ∷ ys) e =
    let head : 48 + x ≡ 48 + y = cc in
    let tail : map (λ shift. 48 + shift) xs ≡ map (λ shift. 48 + shift) ys = cc in
    let same : x ≡ y = omega arith in
    let rest = one_shifts xs ys tail in
    cc

value_one : (form : Form) (v w : Value) → HasForm form v → HasForm form w → value_text v ≡ value_text w → v ≡ w
value_one Number (NumberValue m) (NumberValue n) p q e = ap NumberValue (one_number m n p q e)
value_one Cap (CapValue m) (CapValue n) p q e = ap CapValue (one_cap m n p q e)
value_one Flag (FlagValue true) (FlagValue true) p q e = refl
value_one Flag (FlagValue true) (FlagValue false) p q e = absurd (omega (arith, ap (λ xs. get_or xs 0 0) e))
value_one Flag (FlagValue false) (FlagValue true) p q e = absurd (omega (arith, ap (λ xs. get_or xs 0 0) e))
value_one Flag (FlagValue false) (FlagValue false) p q e = refl
value_one Stop StopDc StopDc p q e = refl
value_one Stop StopDc (StopAt plane stage) p q e = absurd (not_dc plane stage q.0 e)
value_one Stop (StopAt plane stage) StopDc p q e = absurd (not_dc plane stage p.0 (sym e))
value_one Stop (StopAt a b) (StopAt c d) p q e = one_stop a b c d p.0 p.1 q.0 q.1 e
value_one Weights (WeightsValue v) (WeightsValue w) p q e =
    let make : List ℕ → TenWeights = λ shifts. record { shifts = shifts } in
    ap (λ shifts. WeightsValue (make shifts)) (one_shifts v.shifts w.shifts e)
value_one Select (SelectValue Heuristic) (SelectValue Heuristic) p q e = refl
value_one Select (SelectValue Heuristic) (SelectValue Optimal) p q e = absurd (omega (arith, ap (λ xs. get_or xs 0 0) e))
value_one Select (SelectValue Optimal) (SelectValue Heuristic) p q e = absurd (omega (arith, ap (λ xs. get_or xs 0 0) e))
value_one Select (SelectValue Optimal) (SelectValue Optimal) p q e = refl
value_one form v w p q e = absurd assumption

same_value : (word : List ℕ) (key key' : Key) (v w : Value) → IsKeyed word key (value_text v) → IsKeyed word key' (value_text w) →
    HasForm (form_of (row_of key).default) v → HasForm (form_of (row_of key').default) w → v ≡ w
same_value word key key' v w is is' p q =
    let same = keyed_one word (value_text v) (value_text w) key key' is is' in
    value_one (form_of (row_of key).default) v w p (subst (λ k. HasForm (form_of (row_of k).default) w) (sym same.0) q) same.1

entry_one : (keys : List Key) (finds : Finds) (word : List ℕ) (a b : Entry) → IsEntry keys finds word a → IsEntry keys finds word b → a ≡ b
entry_one keys finds word a b p q =
    let key : a.key ≡ b.key = (keyed_one word (value_text a.value) (value_text b.value) a.key b.key p.keyed q.keyed).0 in
    let value : a.value ≡ b.value = same_value word a.key b.key a.value b.value p.keyed q.keyed p.form q.form in
    let make : Key → Value → Entry = λ k v. record { key = k; value = v } in
    ap (λ k. make k a.value) key ∙ ap (make b.key) value

fault_not_entry : (keys : List Key) (finds : Finds) (place : ℕ) (word : List ℕ) (fault : WordFault) (a : Entry) →
    WordSays keys finds place word (Err fault) → IsEntry keys finds word a → ⊥
fault_not_entry keys finds place word (BadWord m) a p q = p.1 a q
fault_not_entry keys finds place word MissingCommand a p q = p
fault_not_entry keys finds place word (MissingKey f) a p q = p
fault_not_entry keys finds place word (OutOfRange f) a p q = p

fault_one : (keys : List Key) (finds : Finds) (place : ℕ) (word : List ℕ) (f g : WordFault) →
    WordSays keys finds place word (Err f) → WordSays keys finds place word (Err g) → f ≡ g
fault_one keys finds place word (BadWord m) (BadWord n) p q = ap BadWord (p.0 ∙ sym q.0)
fault_one keys finds place word (BadWord m) MissingCommand p q = absurd q
fault_one keys finds place word (BadWord m) (MissingKey g) p q = absurd q
fault_one keys finds place word (BadWord m) (OutOfRange g) p q = absurd q
fault_one keys finds place word MissingCommand g p q = absurd p
fault_one keys finds place word (MissingKey f) g p q = absurd p
fault_one keys finds place word (OutOfRange f) g p q = absurd p

entries_say_one : (keys : List Key) (words : List (List ℕ)) (finds : Finds) (place : ℕ) (a b : Result Finds WordFault) →
    EntriesSay keys finds place words a → EntriesSay keys finds place words b → a ≡ b
entries_say_one keys [] finds place a b p q = p ∙ sym q
entries_say_one keys (word ∷ words) finds place a b (inl p) (inl q) = p.2 ∙ ap Err (fault_one keys finds place word p.0 q.0 p.1 q.1) ∙ sym q.2
entries_say_one keys (word ∷ words) finds place a b (inl p) (inr q) = absurd (fault_not_entry keys finds place word p.0 q.0 p.1 q.1)
entries_say_one keys (word ∷ words) finds place a b (inr p) (inl q) = absurd (fault_not_entry keys finds place word q.0 p.0 q.1 p.1)
entries_say_one keys (word ∷ words) finds place a b (inr p) (inr q) =
    let same : p.0 ≡ q.0 = entry_one keys finds word p.0 q.0 p.1 q.1 in
    entries_say_one keys words (with_entry finds q.0) (place + 1) a b
    (subst (λ e. EntriesSay keys (with_entry finds e) (place + 1) words a) same p.2) q.2

rest_says_one : (said : Result (Task × List Key) WordFault) (rest : List (List ℕ)) (a b : Result Command WordFault) → RestSays said rest a →
    RestSays said rest b → a ≡ b
rest_says_one (Err fault) rest a b p q = p ∙ sym q
rest_says_one (Ok named) rest a b p q = p.2 ∙ ap (made_of named) (entries_say_one named.1 rest nothing 1 p.0 q.0 p.1 q.1) ∙ sym q.2

pub says_one : (words : List (List ℕ)) (a b : Result Command WordFault) → Says words a → Says words b → a ≡ b
says_one [] a b p q = p ∙ sym q
says_one (first ∷ rest) a b p q = rest_says_one (name_said first) rest a b p q

pub says_rest : (words rest : List (List ℕ)) (first : List ℕ) (named : Task × List Key) (said : Result Finds WordFault) → words ≡ first ∷ rest →
    command_named first ≡ Some named → EntriesSay named.1 nothing 1 rest said → Says words (made_of named said)
says_rest words rest first named said is is_named entries =
    subst (λ ws. Says ws (made_of named said)) (sym is) (subst (λ n. RestSays (named_or_fault n) rest (made_of named said)) (sym is_named)
    (said, entries, refl))

pub says_first : (words rest : List (List ℕ)) (first : List ℕ) → words ≡ first ∷ rest → command_named first ≡ None → Says words (Err (BadWord 0))
says_first words rest first is not_named =
    subst (λ ws. Says ws (Err (BadWord 0))) (sym is) (subst (λ n. RestSays (named_or_fault n) rest (Err (BadWord 0))) (sym not_named) refl)
