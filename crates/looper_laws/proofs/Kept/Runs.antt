-- A looper keeps what it has to keep from the start of a run to its end, and so every state of a
-- run has what always holds.
use Rattle.std.proofs.Common.{◌≡◌, ℕ, suc, ◌+◌, ◌≤◌, List, [], ◌∷◌, length, map, sym, subst, arith, nat_le, leb-true, add-zero}
use Rattle.std.specs.Prelude.{IsTrue}
use Rattle.std.proofs.lemmas.Bool.{and_parts}
use Rattle.sl_base.specs.Sounds.{Sound}
use Rattle.sl_commands.specs.declared.Target.TheVariants.{All}
use Rattle.sl_commands.specs.declared.Entry.{Entry}
use Rattle.sl_commands.specs.Settings.{are_globals, is_loop_count}
use Rattle.looper_rules.specs.Room.{used}
use Rattle.looper_rules.specs.Looper.{Looper, tape_of, faces_of, free_of, on_loop}
use Rattle.looper_rules.specs.Frame.{at_boundary, at_boundaries, played_on, played, all_played, framed_from, framed}
use Rattle.looper_rules.specs.Entries.{applied}
use Rattle.looper_rules.specs.Run.{entered, due, later, begun}
use Rattle.looper_rules.specs.Cuts.{run_from}
use Rattle.looper_rules.specs.States.{IsLooper}
use Rattle.looper_rules.specs.Reached.{KeepsLooper}
use Rattle.looper_laws.proofs.Kept.Tracks.{on_loop_keeps, swept_keeps, played_keeps, at_boundary_keeps, gain_within, one_frame_more, in_reach, are_tracks}
use Rattle.looper_laws.proofs.Kept.Settings.{dry_range}
use Rattle.looper_laws.proofs.Kept.Entries.{on_tracks, free_and_used, applied_keeps}
use Rattle.looper_laws.proofs.Kept.Sessions.{applied-whole, at_boundaries-whole, framed_from-whole}

-- the boundaries of a frame
pub at_boundaries_keeps : {frame : ℕ} {l : Looper} (now : ℕ) → IsLooper frame l →
    IsLooper frame (at_boundaries now l)
at_boundaries_keeps {frame = frame} {l = l} now h =
    on_tracks All (on_loop (at_boundary l.globals now (faces_of l)))
    (on_loop_keeps frame (at_boundary l.globals now (faces_of l))
    (at_boundary_keeps l.globals now (faces_of l))) h

-- a frame whose boundaries were met
pub framed_from_keeps : {frame : ℕ} {l : Looper} (x : Sound) → IsLooper frame l →
    IsLooper (frame + 1) (framed_from x l).looper
framed_from_keeps {frame = frame} {l = l} x h =
    let all : free_of l.chunks l.tracks + used (map tape_of l.tracks) ≡ l.chunks =
    free_and_used l.chunks l.tracks h.chunks
    in let now = swept_keeps played_on (played l.globals.fade_step x) l.chunks frame
    (free_of l.chunks l.tracks) l.tracks (played_keeps frame l.globals.fade_step x)
    (in_reach l.chunks frame l.tracks h.tracks h.chunks) (omega arith)
    in let dry : l.globals.dry ≤ 1000 =
    leb-true l.globals.dry 1000 (and_parts (nat_le 0 l.globals.dry) (nat_le l.globals.dry 1000)
    (dry_range (length l.tracks) l.globals h.globals)).1
    in let less : used (map tape_of (map played_on (all_played x l))) ≤ free_of l.chunks l.tracks
    + used (map tape_of l.tracks) = now.used_chunks
    in record {
      tracks = one_frame_more frame (map played_on (all_played x l))
          (are_tracks l.chunks frame (map played_on (all_played x l)) now.tracks);
      rate = h.rate;
      count = subst (λ n. IsTrue (is_loop_count n)) (sym now.same_count) h.count;
      globals = subst (λ n. IsTrue (are_globals n l.globals)) (sym now.same_count) h.globals;
      dry = gain_within l.dry l.globals.dry l.globals.fade_step h.dry dry;
      chunks = omega arith;
    }

-- each half of a frame, and a whole one
pub boundaries_keep : (done now : ℕ) (l : Looper) → KeepsLooper done l →
    KeepsLooper done (at_boundaries now l)
boundaries_keep done now l h =
    record {
      looper = at_boundaries_keeps now h.looper;
      session =
          at_boundaries-whole now l h.session;
    }

pub behind_keeps : (done : ℕ) (x : Sound) (l : Looper) → KeepsLooper done l →
    KeepsLooper (done + 1) (framed_from x l).looper
behind_keeps done x l h =
    record { looper = framed_from_keeps x h.looper; session = framed_from-whole x l h.session }

pub frame_keeps : (done now : ℕ) (x : Sound) (l : Looper) → KeepsLooper done l →
    KeepsLooper (done + 1) (framed now x l).looper
frame_keeps done now x l h =
    behind_keeps done x (at_boundaries now l) (boundaries_keep done now l h)

-- an entry
pub entry_keeps : (frame : ℕ) (e : Entry) (l : Looper) → KeepsLooper frame l →
    KeepsLooper frame (applied frame e l)
entry_keeps frame e l h =
    record {
      looper = applied_keeps frame e h.looper;
      session =
          applied-whole frame e l h.looper.tracks h.session;
    }

-- some entries
pub entered_keeps : (frame : ℕ) (es : List Entry) (l : Looper) → KeepsLooper frame l →
    KeepsLooper frame (entered frame es l).looper
entered_keeps frame [] l h = h
entered_keeps frame (e ∷ es) l h =
    entered_keeps frame es (applied frame e l) (entry_keeps frame e l h)

-- some frames
pub begun_keeps :
    (frame : ℕ) (es : List Entry) (xs : List Sound) (l : Looper) → KeepsLooper frame l →
    KeepsLooper (frame + length xs) (begun frame es xs l).looper
begun_keeps frame es [] l h = rw add-zero h
begun_keeps frame es (x ∷ xs) l h =
    let before : KeepsLooper frame (entered frame (due frame es) l).looper =
    entered_keeps frame (due frame es) l h
    in let now : KeepsLooper (frame + 1)
    (framed frame x (entered frame (due frame es) l).looper).looper =
    frame_keeps frame frame x (entered frame (due frame es) l).looper before
    in let same : (frame + 1) + length xs ≡ frame + suc (length xs) = omega arith
    in subst (λ at. KeepsLooper at (begun frame es (x ∷ xs) l).looper) same
    (begun_keeps (frame + 1) (later frame es) xs
    (framed frame x (entered frame (due frame es) l).looper).looper now)

-- a run, whatever its first frame's number is
pub run_keeps :
    (frame : ℕ) (es : List Entry) (xs : List Sound) (l : Looper) → KeepsLooper frame l →
    KeepsLooper (frame + length xs) (run_from frame es xs l).looper
run_keeps frame es xs l h = entered_keeps (frame + length xs) (begun frame es xs l).left
    (begun frame es xs l).looper (begun_keeps frame es xs l h)
