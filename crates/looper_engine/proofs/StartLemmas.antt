-- An engine begins with a looper that keeps what always holds, and with no save.
use Rattle.std.proofs.Common.{◌≡◌, ℕ, ◌<◌, List, [], length, map, sym, subst, arith, Result, Ok, Err}
use Rattle.std.specs.Prelude.{IsTrue, IfOk}
use Rattle.sl_base.specs.Sounds.{Sound}
use Rattle.sl_commands.specs.Settings.{LooperSettings, are_settings}
use Rattle.looper_rules.specs.Room.{used}
use Rattle.looper_rules.specs.Looper.{Looper}
use Rattle.looper_rules.specs.Run.{start}
use Rattle.looper_rules.specs.Unanswered.{holds_of, HoldPins}
use Rattle.looper_rules.specs.Reached.{AreLists, IsBeginning, KeepsLooper}
use Rattle.looper_laws.proofs.Kept.Starts.{begins}
use Rattle.run_laws.proofs.Saves.Owners.{first-holds}

pub beginning : (settings : LooperSettings) (chunks : ℕ) (lists : List (List Sound)) →
    IsTrue (are_settings settings) → AreLists settings.strips lists →
    (chunks < used (map length lists) → ⊥) →
    IsBeginning settings chunks lists
beginning settings chunks lists valid agree fits =
    record {
      in_range = valid;
      lengths = agree;
      fits =
          (let less : chunks < used (map length lists) → ⊥ = fits in omega arith);
    }

pub start_kept : (settings : LooperSettings) (chunks : ℕ) (lists : List (List Sound)) (l : Looper) →
    l ≡ start settings chunks lists → IsBeginning settings chunks lists → KeepsLooper 0 l
start_kept settings chunks lists l is h =
    subst (KeepsLooper 0) (sym is) (begins settings chunks lists h)

pub start_free : (settings : LooperSettings) (chunks : ℕ) (lists : List (List Sound)) (l : Looper) →
    l ≡ start settings chunks lists → HoldPins [] (holds_of l)
start_free settings chunks lists l is =
    subst (λ (x : Looper). HoldPins [] (holds_of x)) (sym is) (first-holds settings.strips lists)

-- what holds at any rate holds of each result
pub at_any_rate : {A E : Type 0} (r : Result A E) (P : Type 0) → P → IfOk r (λ x. P)
at_any_rate (Ok x) P h = h
at_any_rate (Err e) P h = tt
