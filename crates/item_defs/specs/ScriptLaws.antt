-- The laws of scripts.
use Rattle.std.specs.Prelude.{◌≡◌, ℕ, ◌+◌, List, Bool}
use Rattle.item_defs.specs.Items.{Form, Item}
use Rattle.item_defs.specs.Readings.{AreItems}
use Rattle.item_defs.specs.Scripts.{Script, then_ask, in_turn, proceed, run}
use Rattle.item_defs.specs.Following.{AreSound, SaysWhat, Asks}
use Rattle.item_defs.specs.Completing.{Goes, Completed}

-- one script after another is one reading after another
abbrev pub RunsInOrder : (G A B : Type 0) → Type 0
RunsInOrder G A B = (s : Script G A) (next : A → Script G B) (bits : List Bool) → run (then_ask s next) bits ≡ proceed (λ a. run (next a)) (run s bits)

-- the first m things and then n more are m + n things
abbrev pub TurnsSplit : Type 0 → Type 0
TurnsSplit S = (item : ℕ → S → Script S S) (j m n : ℕ) (s : S) → in_turn item j (m + n) s ≡ then_ask (in_turn item j m s) (in_turn item (j + m) n)

-- a script says of bits what its items do
abbrev pub ScriptsSay : (G A : Type 0) → Type 0
ScriptsSay G A = (s : Script G A) → AreSound s → SaysWhat s

-- if each question has a possible answer, there is a way to the end from any of them
abbrev pub ScriptsComplete : (G A : Type 0) → Type 0
ScriptsComplete G A = (s : Script G A) → Goes s (λ a. Unit {0}) → (items : List Item) (form : Form) → AreItems items → Asks s items form →
    Completed s (λ a. Unit {0}) items
