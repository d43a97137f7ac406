-- An item that a call took, as an item of a script, which may refuse more.
use Rattle.std.proofs.Common.{◌≡◌, ℕ, subst, Some, None, Ok, Err}
use Rattle.item_defs.specs.Items.{Form, Refusal}
use Rattle.item_defs.specs.Readings.{IsSound}
use Rattle.bit_pipe.specs.declared.fault.InFault.{InFault}
use Rattle.bit_pipe.specs.declared.fault.InFault.TheVariants as inputs
use Rattle.bit_pipe.specs.declared.fault.TextFault.{TextFault}
use Rattle.bit_pipe.specs.declared.fault.TextFault.TheVariants as texts
use Rattle.bit_pipe.specs.Faults.{of_input}
use Rattle.bit_pipe.specs.Sources.{SourceOf}
use Rattle.bit_pipe.specs.SourceState.{SourceState, IsIn, EndsItem}
use Rattle.bit_pipe.proofs.Taking.{in_later}
use Rattle.item_defs.specs.Scripts.{Script, ask}
use Rattle.bit_pipe.specs.ScriptSources.{Found, got, ends, refuses, fails, ReadsAs, by_fault}
use Rattle.bit_pipe.proofs.ScriptReading.{ask_got, ask_refused, ask_ended, ask_failed}
use Rattle.gaggle_codes.specs.Items.{EndsForm}

-- what the first form refuses, the second refuses by the same name
abbrev pub Refuses : Form → Form → Type 0
Refuses taken asked = (n : ℕ) (name : Refusal) → taken.refusal n ≡ Some name → asked.refusal n ≡ Some name

module _ {I : Type 0} {k : SourceOf I} (taken : Form) (value : ℕ → ℕ) {a b : SourceState I} where
  pub form_in : (v : ℕ) → IsIn a → EndsForm k taken value (got v) a b → IsIn b
  form_in v h p = in_later h p.3.1

  module _ {G A : Type 0} (g : G) (asked : Form) (next : ℕ → Script G A) (same : taken.shape ≡ asked.shape) where
    pub form_cut : EndsForm k taken value (ends tt) a b → ReadsAs k (ask g asked next) (ends g) a b
    form_cut p = ask_ended g asked next (subst (λ s. EndsItem k s (Ok None) a b) same p)

    refused_so : (name : Refusal) → IsSound asked.shape → Refuses taken asked → EndsForm k taken value (refuses tt name) a b →
        ReadsAs k (ask g asked next) (refuses g name) a b
    refused_so name sound more p = ask_refused g asked next p.0 name sound (subst (λ s. EndsItem k s (Ok (Some p.0)) a b) same p.2) (more p.0 name p.1)

    failed_so : (e : InFault) → EndsForm k taken value (fails tt e) a b → ReadsAs k (ask g asked next) (by_fault (of_input e) g) a b
    failed_so e p = ask_failed g asked next e (subst (λ s. EndsItem k s (Err e) a b) same p)

    pub form_fault : (fault : TextFault) → IsSound asked.shape → Refuses taken asked → EndsForm k taken value (by_fault fault tt) a b →
        ReadsAs k (ask g asked next) (by_fault fault g) a b
    form_fault texts.BadOption sound more p = refused_so _ sound more p
    form_fault texts.BadDelta sound more p = refused_so _ sound more p
    form_fault texts.BadDepth sound more p = refused_so _ sound more p
    form_fault texts.FalseFlag sound more p = refused_so _ sound more p
    form_fault texts.ReadFault sound more p = failed_so inputs.ReadFault p
    form_fault texts.LongInput sound more p = failed_so inputs.LongInput p
    form_fault texts.Broken sound more p = failed_so inputs.Broken p

    -- a number with this value was taken, and the script refuses it
    pub form_refused : (v : ℕ) (name : Refusal) → IsSound asked.shape → ((n : ℕ) → taken.refusal n ≡ None → value n ≡ v → asked.refusal n ≡ Some name) →
        EndsForm k taken value (got v) a b → ReadsAs k (ask g asked next) (refuses g name) a b
    form_refused v name sound bad p = ask_refused g asked next p.0 name sound (subst (λ s. EndsItem k s (Ok (Some p.0)) a b) same p.3) (bad p.0 p.2 p.1)

    -- or it doesn't, and then what follows was read
    pub form_got : (v : ℕ) (f : Found G A) {c : SourceState I} → IsSound asked.shape →
        ((n : ℕ) → taken.refusal n ≡ None → value n ≡ v → asked.refusal n ≡ None) → EndsForm k taken value (got v) a b →
        ((n : ℕ) → value n ≡ v → ReadsAs k (next n) f b c) → ReadsAs k (ask g asked next) f a c
    form_got v f sound good p rest = ask_got g asked next p.0 f sound (subst (λ s. EndsItem k s (Ok (Some p.0)) a b) same p.3) (good p.0 p.2 p.1) (rest p.0 p.1)
