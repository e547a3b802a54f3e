-- Entries and frames leave the rate of a looper and its chunks.
use Rattle.std.proofs.Common.{ℕ, ◌+◌, Bool, true, false, List, [], ◌∷◌, length, Option, Some, None, refl, ◌∙◌}
use Rattle.std.specs.Prelude.{if◌then◌else◌}
use Rattle.sl_base.specs.Sounds.{Sound}
use Rattle.sl_commands.specs.declared.Target.{Target}
use Rattle.sl_commands.specs.declared.Target.TheVariants.{One, All, Selected}
use Rattle.sl_commands.specs.declared.Command.{Command}
use Rattle.sl_commands.specs.declared.Command.TheVariants.{SaveLoop, SaveSession, Release}
use Rattle.sl_commands.specs.declared.Entry.{Entry}
use Rattle.looper_rules.specs.Looper.{Asker, Looper, index_of}
use Rattle.looper_rules.specs.Saves.{session_refusal}
use Rattle.looper_rules.specs.Entries.{is_taken, asker_of, refusal_at, saves_loop, saves_session, releases, performed, applied}
use Rattle.looper_rules.specs.Frame.{framed}
use Rattle.looper_rules.specs.Run.{entered, due, later, begun}
use Rattle.looper_rules.specs.Cuts.{run_from}
use Rattle.looper_rules.specs.Reached.{SameRateAndChunks}

-- two steps, one behind the other
both : (old between now : Looper) → SameRateAndChunks old between → SameRateAndChunks between now →
    SameRateAndChunks old now
both old between now first next =
    record { rate = next.rate ∙ first.rate; chunks = next.chunks ∙ first.chunks }

none : (l : Looper) → SameRateAndChunks l l
none l = record { rate = refl; chunks = refl }

same_saves_loop : (refusal : Option ℕ) (k : ℕ) (asker : Asker) (l : Looper) →
    SameRateAndChunks l (saves_loop refusal k asker l)
same_saves_loop None k asker l = record { rate = refl; chunks = refl }
same_saves_loop (Some n) k asker l = none l

same_saves_session : (refusal : Option ℕ) (asker : Asker) (l : Looper) →
    SameRateAndChunks l (saves_session refusal asker l)
same_saves_session None asker l = record { rate = refl; chunks = refl }
same_saves_session (Some n) asker l = none l

same_releases : (target : Target) (l : Looper) → SameRateAndChunks l (releases target l)
same_releases (One k) l = record { rate = refl; chunks = refl }
same_releases All l = record { rate = refl; chunks = refl }
same_releases Selected l = none l

same_performed : (c : Command) (frame : ℕ) (e : Entry) (l : Looper) →
    SameRateAndChunks l (performed c frame e l)
same_performed (SaveLoop target name) frame e l =
    same_saves_loop (refusal_at target l) (index_of target l.globals.selected_loop_num)
    (asker_of e false) l
same_performed (SaveSession name) frame e l =
    same_saves_session (session_refusal l.tracks) (asker_of e true) l
same_performed (Release target outcome) frame e l = same_releases target l
same_performed _ frame e l = record { rate = refl; chunks = refl }

-- an entry
pub same_entry : (frame : ℕ) (e : Entry) (l : Looper) → SameRateAndChunks l (applied frame e l)
same_entry frame e l = by_taken (is_taken e l)
  where
    by_taken : (b : Bool) → SameRateAndChunks l (if b then performed e.command frame e l else l)
    by_taken true = same_performed e.command frame e l
    by_taken false = none l

-- a frame
pub same_frame : (frame : ℕ) (x : Sound) (l : Looper) →
    SameRateAndChunks l (framed frame x l).looper
same_frame frame x l = record { rate = refl; chunks = refl }

-- some entries
pub same_entered : (frame : ℕ) (es : List Entry) (l : Looper) →
    SameRateAndChunks l (entered frame es l).looper
same_entered frame [] l = none l
same_entered frame (e ∷ es) l =
    both l (applied frame e l) _ (same_entry frame e l) (same_entered frame es (applied frame e l))

-- some frames
pub same_begun : (frame : ℕ) (es : List Entry) (xs : List Sound) (l : Looper) →
    SameRateAndChunks l (begun frame es xs l).looper
same_begun frame es [] l = none l
same_begun frame es (x ∷ xs) l =
    let before = (entered frame (due frame es) l).looper
    in let now = (framed frame x before).looper
    in both l before _ (same_entered frame (due frame es) l)
    (both before now _ (same_frame frame x before)
    (same_begun (frame + 1) (later frame es) xs now))

-- a run
pub same_run : (frame : ℕ) (es : List Entry) (xs : List Sound) (l : Looper) →
    SameRateAndChunks l (run_from frame es xs l).looper
same_run frame es xs l =
    both l (begun frame es xs l).looper _ (same_begun frame es xs l)
    (same_entered (frame + length xs) (begun frame es xs l).left (begun frame es xs l).looper)
