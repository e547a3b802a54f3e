-- A get changes nothing, and an opening that is refused nothing but the count of refusals.
use Rattle.std.proofs.Common.{◌≡◌, ◌≢◌, ℕ, ◌≤◌, Bool, true, false, refl, sym, ap, ◌∙◌, subst, nat_le, nat_lt, cond}
use Rattle.std.proofs.lemmas.Bool.{le-leb}
use Rattle.sl_base.specs.Sounds.{Sound, loudness}
use Rattle.sl_commands.specs.declared.Mode.{Mode}
use Rattle.sl_commands.specs.declared.Mode.TheVariants.{WaitStart}
use Rattle.sl_commands.specs.declared.Started.{Started}
use Rattle.sl_commands.specs.declared.Started.TheVariants.{Ok}
use Rattle.sl_commands.specs.declared.Command.{Command}
use Rattle.sl_commands.specs.declared.Entry.{Entry}
use Rattle.looper_rules.specs.Opening.{opening}
use Rattle.looper_rules.specs.Loop.{Loop, in_mode, refused_once}
use Rattle.looper_rules.specs.Starting.{records, starts_record, layers_on, starts, leaves_wait}
use Rattle.looper_rules.specs.LoopFrame.{wakes_as, awake_in, awake}
use Rattle.looper_rules.specs.Looper.{Looper}
use Rattle.looper_rules.specs.Entries.{performed, is_taken, applied}
use Rattle.looper_laws.specs.OtherLayers.{CountsRefusal}

-- an entry whose command changes nothing
either_way : {A : Type 0} (test : Bool) (a : A) → cond test a a ≡ a
either_way true a = refl
either_way false a = refl

pub applied_nothing : (frame : ℕ) (e : Entry) (command : Command) (l : Looper) →
    performed command frame e l ≡ l → e.command ≡ command → applied frame e l ≡ l
applied_nothing frame e command l nothing its =
    ap (λ command. cond (is_taken e l) (performed command frame e l) l) its
    ∙ (ap (λ now. cond (is_taken e l) now l) nothing ∙ either_way (is_taken e l) l)

-- a refusal counted
pub counted : (l : Loop Sound) → CountsRefusal l (refused_once l)
counted l = record { refused = refl; deck = refl; controls = refl; stack = refl }

pub records_refused : (answer : Started) (l : Loop Sound) → answer ≢ Ok →
    CountsRefusal l (records answer l)
records_refused Ok l refused = absurd (refused refl)
records_refused _ l refused = counted l

pub starts_record_refused : (reach : ℕ) (l : Loop Sound) → l.controls.rec_thresh ≡ 0 →
    opening reach true l.stack ≢ Ok → CountsRefusal l (starts_record reach l)
starts_record_refused reach l quiet refused =
    subst (λ thresh. CountsRefusal l
    (cond (nat_lt 0 thresh) (in_mode WaitStart l) (records (opening reach true l.stack) l)))
    (sym quiet) (records_refused (opening reach true l.stack) l refused)

layers_on_refused : (answer : Started) (mode : Mode) (l : Loop Sound) → answer ≢ Ok →
    CountsRefusal l (layers_on answer mode l)
layers_on_refused Ok mode l refused = absurd (refused refl)
layers_on_refused _ mode l refused = counted l

pub starts_refused : (reach : ℕ) (mode : Mode) (l : Loop Sound) → opening reach false l.stack ≢ Ok →
    CountsRefusal l (starts mode reach l)
starts_refused reach mode l refused = layers_on_refused (opening reach false l.stack) mode l refused

-- at a loud frame
wakes_refused : (answer : Started) (l : Loop Sound) → answer ≢ Ok →
    wakes_as answer l ≡ leaves_wait (refused_once l)
wakes_refused Ok l refused = absurd (refused refl)
wakes_refused _ l refused = refl

pub awake_refused : (x : Sound) (reach : ℕ) (l : Loop Sound) → l.deck.mode ≡ WaitStart →
    l.controls.rec_thresh ≤ loudness x → opening reach true l.stack ≢ Ok →
    awake x reach l ≡ leaves_wait (refused_once l)
awake_refused x reach l waits loud refused =
    ap (λ mode. awake_in mode (nat_le l.controls.rec_thresh (loudness x)) reach l) waits
    ∙ (ap (λ is. awake_in WaitStart is reach l) (le-leb l.controls.rec_thresh (loudness x) loud)
    ∙ wakes_refused (opening reach true l.stack) l refused)
