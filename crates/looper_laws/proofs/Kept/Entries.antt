-- A looper keeps what it has to keep through every entry, valid or not.
use Rattle.std.proofs.Common.{◌≡◌, ℕ, ◌+◌, ◌≤◌, true, false, List, length, map, Option, Some, None, refl, sym, subst, arith}
use Rattle.std.specs.Prelude.{◌&&◌, not, ℤ, IsTrue}
use Rattle.std.proofs.lemmas.Bool.{cond_both, and_parts}
use Rattle.std.proofs.lemmas.List.{map-id}
use Rattle.std.specs.List.{AllByRecursion}
use Rattle.sl_commands.specs.declared.Verb.{Verb}
use Rattle.sl_commands.specs.declared.Control.{Control}
use Rattle.sl_commands.specs.declared.Target.{Target}
use Rattle.sl_commands.specs.declared.Target.TheVariants.{One, All, Selected}
use Rattle.sl_commands.specs.declared.Command.{Command}
use Rattle.sl_commands.specs.declared.Command.TheVariants.{Down, Up, Hit, Set, SetGlobal, Get, GetGlobal, SaveLoop, SaveSession, Release, Quit}
use Rattle.sl_commands.specs.declared.Entry.{Entry}
use Rattle.sl_commands.specs.Controls.{is_of_loop, is_in_range}
use Rattle.sl_commands.specs.Commands.{is_target, is_allowed}
use Rattle.sl_commands.specs.Entries.{is_sender}
use Rattle.sl_commands.specs.Settings.{are_globals, is_loop_count}
use Rattle.looper_rules.specs.Room.{used}
use Rattle.looper_rules.specs.Presses.{given, pressed, released}
use Rattle.looper_rules.specs.Values.{AreControls, with_global}
use Rattle.looper_rules.specs.Looper.{Asker, Track, Looper, tape_of, free_of, swept, itself, at_index, at_target, on_loop, index_of}
use Rattle.looper_rules.specs.Saves.{pinned_for, loop_released, session_released, session_refusal}
use Rattle.looper_rules.specs.Entries.{is_taken, sets, asker_of, refusal_at, saves_loop, saves_session, releases, performed, applied}
use Rattle.looper_rules.specs.States.{IsLooper}
use Rattle.looper_laws.proofs.Kept.Presses.{given_keeps, pressed_keeps, released_keeps}
use Rattle.looper_laws.proofs.Kept.Tracks.{own, track_of_loop, loop_of_track, KeepsTrack, KeepsTracks, on_loop_keeps, AreKept, swept_keeps, at_index_keeps, mapped_keeps, in_reach, are_tracks}
use Rattle.looper_laws.proofs.Kept.Saves.{pinned_for_keeps, loop_released_keeps, session_released_keeps, session_released_tape}
use Rattle.looper_laws.proofs.Kept.Settings.{set_keeps, set_global_keeps}

-- a list taken one by one is the list
map-itself : (ts : List Track) → map itself ts ≡ ts
map-itself ts = map-id ts

-- what is free and what is used are the chunks
pub free_and_used : (chunks : ℕ) (ts : List Track) → used (map tape_of ts) ≤ chunks →
    free_of chunks ts + used (map tape_of ts) ≡ chunks
free_and_used chunks ts within = omega arith

-- something done to the tracks of a target keeps them
at_target_keeps :
    (target : Target) (selected : ℕ) (act : ℕ → Track → Track) (chunks frame free : ℕ)
    (ts : List Track) →
    KeepsTracks frame act → AllByRecursion (KeepsTrack chunks frame) ts →
    free + used (map tape_of ts) ≤ chunks →
    AreKept chunks frame (free + used (map tape_of ts)) ts (at_target target selected act free ts)
at_target_keeps (One k) selected act chunks frame free ts keeps h within =
    at_index_keeps k act chunks frame free ts keeps h within
at_target_keeps All selected act chunks frame free ts keeps h within =
    subst (λ now. AreKept chunks frame (free + used (map tape_of ts)) ts now)
    (map-itself (swept itself act free ts))
    (swept_keeps itself act chunks frame free ts keeps h within)
at_target_keeps Selected selected act chunks frame free ts keeps h within =
    at_index_keeps selected act chunks frame free ts keeps h within

-- a looper with other tracks, as many, which are kept
pub with_tracks :
    {frame : ℕ} {l : Looper} (saves : ℕ) (now : List Track) → IsLooper frame l →
    AreKept l.chunks frame l.chunks l.tracks now →
    IsLooper frame (record l { tracks = now; saves = saves })
with_tracks {frame = frame} {l = l} saves now h kept =
    record {
      tracks = are_tracks l.chunks frame now kept.tracks;
      rate = h.rate;
      count = subst (λ n. IsTrue (is_loop_count n)) (sym kept.same_count) h.count;
      globals = subst (λ n. IsTrue (are_globals n l.globals)) (sym kept.same_count) h.globals;
      dry = h.dry;
      chunks = kept.used_chunks;
    }

-- something done to the tracks of a target of a looper
pub on_tracks :
    {frame : ℕ} {l : Looper} (target : Target) (act : ℕ → Track → Track) → KeepsTracks frame act →
    IsLooper frame l →
    IsLooper frame (record l {
      tracks =
          at_target target l.globals.selected_loop_num act (free_of l.chunks l.tracks) l.tracks;
    })
on_tracks {frame = frame} {l = l} target act keeps h =
    let all : free_of l.chunks l.tracks + used (map tape_of l.tracks) ≡ l.chunks =
    free_and_used l.chunks l.tracks h.chunks
    in let now : AreKept l.chunks frame (free_of l.chunks l.tracks + used (map tape_of l.tracks))
    l.tracks (at_target target l.globals.selected_loop_num act (free_of l.chunks l.tracks)
    l.tracks) =
    at_target_keeps target l.globals.selected_loop_num act l.chunks frame
    (free_of l.chunks l.tracks) l.tracks keeps
    (in_reach l.chunks frame l.tracks h.tracks h.chunks) (omega arith)
    in with_tracks l.saves
    (at_target target l.globals.selected_loop_num act (free_of l.chunks l.tracks) l.tracks) h
    (subst (λ most. AreKept l.chunks frame most l.tracks
    (at_target target l.globals.selected_loop_num act (free_of l.chunks l.tracks) l.tracks)) all
    now)

-- a verb that is given
given_on : (frame : ℕ) (verb : Verb) → KeepsTracks frame (on_loop (given verb))
given_on frame verb = on_loop_keeps frame (given verb) (λ a l h. given_keeps verb a.reach h)

-- a press
pressed_on : (frame : ℕ) (verb : Verb) → KeepsTracks frame (on_loop (pressed verb frame))
pressed_on frame verb reach t h =
    let k = pressed_keeps verb frame reach (loop_of_track h)
    in track_of_loop (own reach k k.reach)
    (subst (λ c. AreControls c) (sym k.controls) h.track.controls) h.track.gain
    (let same : frame ≤ frame = omega arith in same)

-- the end of a press
released_on : (frame long_press : ℕ) (verb : Verb) →
    KeepsTracks frame (on_loop (released verb frame long_press))
released_on frame long_press verb reach t h =
    let k = released_keeps verb frame long_press reach (loop_of_track h)
    in track_of_loop (own reach k.0 k.0.reach)
    (subst (λ c. AreControls c) (sym k.0.controls) h.track.controls) h.track.gain
    (k.1 frame h.track.press)

-- a control of a loop that is set
sets_on :
    (frame loops : ℕ) (control : Control) (value : ℤ) → is_in_range control value loops ≡ true →
    KeepsTracks frame (on_loop (sets control value))
sets_on frame loops control value e reach t h =
    let k = loop_of_track h
    in track_of_loop
    (record {
      loop = record {
        in_mode = k.loop.in_mode;
        streak = k.loop.streak;
        stack = k.loop.stack;
        refused = k.loop.refused;
      };
      reach = k.reach;
      pinned = k.pinned;
      controls = refl;
      press =
          refl;
    })
    (set_keeps control value loops t.loop.controls e h.track.controls)
    h.track.gain
    h.track.press

-- a save of a loop, by the answer at once
saves_loop_keeps :
    {frame : ℕ} {l : Looper} (refusal : Option ℕ) (k : ℕ) (asker : Asker) → IsLooper frame l →
    IsLooper frame (saves_loop refusal k asker l)
saves_loop_keeps {frame = frame} {l = l} None k asker h =
    let now : AreKept l.chunks frame (0 + used (map tape_of l.tracks)) l.tracks
    (at_index k (λ reach t. pinned_for asker t) 0 l.tracks) =
    at_index_keeps k (λ reach t. pinned_for asker t) l.chunks frame 0 l.tracks
    (pinned_for_keeps frame asker) (in_reach l.chunks frame l.tracks h.tracks h.chunks)
    (let most = h.chunks in omega arith)
    in with_tracks (l.saves + 1) (at_index k (λ reach t. pinned_for asker t) 0 l.tracks) h
    (record {
      tracks = now.tracks;
      used_chunks =
          (let less = now.used_chunks in let most = h.chunks in omega arith);
      same_count =
          now.same_count;
    })
saves_loop_keeps (Some refusal) k asker h = h

-- a save of the session, by the answer at once
saves_session_keeps :
    {frame : ℕ} {l : Looper} (refusal : Option ℕ) (asker : Asker) → IsLooper frame l →
    IsLooper frame (saves_session refusal asker l)
saves_session_keeps {frame = frame} {l = l} None asker h =
    let now : AreKept l.chunks frame (used (map tape_of l.tracks)) l.tracks
    (map (pinned_for asker) l.tracks) =
    mapped_keeps (pinned_for asker) l.chunks frame l.tracks (pinned_for_keeps frame asker)
    (λ t. refl) (in_reach l.chunks frame l.tracks h.tracks h.chunks)
    in with_tracks (l.saves + 1) (map (pinned_for asker) l.tracks) h
    (record {
      tracks = now.tracks;
      used_chunks =
          (let less = now.used_chunks in let most = h.chunks in omega arith);
      same_count =
          now.same_count;
    })
saves_session_keeps (Some refusal) asker h = h

-- a release
releases_keeps : {frame : ℕ} {l : Looper} (target : Target) → IsLooper frame l →
    IsLooper frame (releases target l)
releases_keeps {frame = frame} {l = l} (One k) h =
    let now : AreKept l.chunks frame (0 + used (map tape_of l.tracks)) l.tracks
    (at_index k (λ reach t. loop_released t) 0 l.tracks) =
    at_index_keeps k (λ reach t. loop_released t) l.chunks frame 0 l.tracks
    (loop_released_keeps frame) (in_reach l.chunks frame l.tracks h.tracks h.chunks)
    (let most = h.chunks in omega arith)
    in with_tracks l.saves (at_index k (λ reach t. loop_released t) 0 l.tracks) h
    (record {
      tracks = now.tracks;
      used_chunks =
          (let less = now.used_chunks in let most = h.chunks in omega arith);
      same_count =
          now.same_count;
    })
releases_keeps {frame = frame} {l = l} All h =
    let now : AreKept l.chunks frame (used (map tape_of l.tracks)) l.tracks
    (map session_released l.tracks) =
    mapped_keeps session_released l.chunks frame l.tracks (session_released_keeps frame)
    session_released_tape (in_reach l.chunks frame l.tracks h.tracks h.chunks)
    in with_tracks l.saves (map session_released l.tracks) h
    (record {
      tracks = now.tracks;
      used_chunks =
          (let less = now.used_chunks in let most = h.chunks in omega arith);
      same_count =
          now.same_count;
    })
releases_keeps Selected h = h

-- the looper's own controls, with one set
sets_global :
    {frame : ℕ} {l : Looper} (control : Control) (value : ℤ) →
    is_in_range control value (length l.tracks) ≡ true →
    IsLooper frame l → IsLooper frame (record l { globals = with_global control value l.globals })
sets_global {l = l} control value e h =
    record {
      tracks = h.tracks;
      rate = h.rate;
      count = h.count;
      globals = set_global_keeps control value (length l.tracks) l.globals e h.globals;
      dry = h.dry;
      chunks = h.chunks;
    }

-- a command that may be given
performed_keeps :
    {frame : ℕ} {l : Looper} (command : Command) (e : Entry) →
    is_allowed (length l.tracks) command ≡ true → IsLooper frame l →
    IsLooper frame (performed command frame e l)
performed_keeps {frame = frame} (Down target verb) e allowed h =
    on_tracks target (on_loop (pressed verb frame)) (pressed_on frame verb) h
performed_keeps {frame = frame} {l = l} (Up target verb) e allowed h =
    on_tracks target (on_loop (released verb frame l.globals.long_press))
    (released_on frame l.globals.long_press verb) h
performed_keeps {frame = frame} (Hit target verb) e allowed h =
    on_tracks target (on_loop (given verb)) (given_on frame verb) h
performed_keeps {frame = frame} {l = l} (Set target control value) e allowed h =
    on_tracks target (on_loop (sets control value))
    (sets_on frame (length l.tracks) control value
    (and_parts (is_target (length l.tracks) target && is_of_loop control)
    (is_in_range control value (length l.tracks)) allowed).1) h
performed_keeps {l = l} (SetGlobal control value) e allowed h =
    sets_global control value
    (and_parts (not (is_of_loop control)) (is_in_range control value (length l.tracks)) allowed).1
    h
performed_keeps (Get target control) e allowed h = h
performed_keeps (GetGlobal control) e allowed h = h
performed_keeps {l = l} (SaveLoop target name) e allowed h =
    saves_loop_keeps (refusal_at target l) (index_of target l.globals.selected_loop_num)
    (asker_of e false) h
performed_keeps {l = l} (SaveSession name) e allowed h =
    saves_session_keeps (session_refusal l.tracks) (asker_of e true) h
performed_keeps (Release target outcome) e allowed h = releases_keeps target h
performed_keeps Quit e allowed h = h

-- an entry
pub applied_keeps : {l : Looper} (frame : ℕ) (e : Entry) → IsLooper frame l →
    IsLooper frame (applied frame e l)
applied_keeps {l = l} frame e h =
    cond_both (is_taken e l) (performed e.command frame e l) l (λ r. IsLooper frame r)
    (λ valid. performed_keeps e.command e
    (and_parts (is_sender e.sender e.command) (is_allowed (length l.tracks) e.command) valid).1 h)
    (λ other. h)
