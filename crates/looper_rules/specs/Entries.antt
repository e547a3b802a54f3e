-- An entry that isn't valid for the looper's loops changes nothing and gives no answer. A valid one
-- does what its command says: `down`, `up` and `hit` give a verb to the loops of the target; a set
-- sets a control; a get answers with the value at its place; a save, a session and a release do as
-- the rules of saves say; `quit` changes nothing.
-- All loops are taken in index order, and the selected loop is that of selected_loop_num at that
-- moment. A reply carries the sender and seq of the get or save that it answers, and the index of
-- the loop, or -2 for the looper's own controls and for a session. One entry gives at most one
-- reply, and makes at most one save.
-- "Entries and replies" in docs/rules.md.
use Rattle.std.specs.Prelude.{ℕ, ◌+◌, ℤ, pos, negsuc, unsigned_abs, Bool, true, false, List, [], ◌∷◌, length, map, Option, Some, None, slice_get, option_map, if◌then◌else◌}
use Rattle.std.specs.Option.{option_and_then}
use Rattle.sl_commands.specs.declared.Control.{Control}
use Rattle.sl_commands.specs.declared.Target.{Target}
use Rattle.sl_commands.specs.declared.Target.TheVariants.{One, All, Selected}
use Rattle.sl_commands.specs.declared.Command.{Command}
use Rattle.sl_commands.specs.declared.Command.TheVariants.{Down, Up, Hit, Set, SetGlobal, Get, GetGlobal, SaveLoop, SaveSession, Release, Quit}
use Rattle.sl_commands.specs.declared.Entry.{Entry}
use Rattle.sl_commands.specs.declared.Reply.{Reply}
use Rattle.sl_commands.specs.declared.What.{What}
use Rattle.sl_commands.specs.declared.What.TheVariants.{Value, Save as OfLoop, Session as OfSession}
use Rattle.sl_commands.specs.Entries.{is_valid}
use Rattle.looper_rules.specs.Loop.{Loop}
use Rattle.looper_rules.specs.Presses.{given, pressed, released}
use Rattle.looper_rules.specs.Values.{loop_value, global_value, reply_value, with_control, with_global}
use Rattle.looper_rules.specs.Looper.{Asker, Track, Looper, face_on, free_of, at_index, on_target, index_of}
use Rattle.looper_rules.specs.Saves.{Save, list_on, pinned_for, settings_of, save_refusal, session_refusal, loop_asker, running_session, loop_released, session_released}

-- whether the entry is valid for the looper's loops
abbrev pub is_taken : Entry → Looper → Bool
is_taken e l = is_valid (length l.tracks) e

-- the track that a target of one loop names
abbrev pub track_of : Target → Looper → Option Track
track_of target l = slice_get l.tracks (index_of target l.globals.selected_loop_num)

-- the index of the track that a target of one loop names, as a reply tells it
abbrev pub reply_index : Target → Looper → ℤ
reply_index target l = pos (index_of target l.globals.selected_loop_num)

-- the loop with a control set
abbrev pub sets : {A : Type 0} → Control → ℤ → ℕ → Loop A → Loop A
sets control value reach l =
    record l { controls = with_control control (unsigned_abs value) l.controls }

-- the asker of a save
abbrev pub asker_of : Entry → Bool → Asker
asker_of e of_session = record { sender = e.sender; seq = e.seq; of_session = of_session }

-- the answer at once to a save of the loop that a target names
abbrev pub refusal_at : Target → Looper → Option ℕ
refusal_at target l = option_and_then save_refusal (track_of target l)

-- the track of this index pinned, and one save more
abbrev pub with_save_of : ℕ → Asker → Looper → Looper
with_save_of k asker l =
    record l {
      tracks = at_index k (λ reach t. pinned_for asker t) 0 l.tracks;
      saves = l.saves + 1;
    }

-- the looper after a save of a loop, by the answer at once
abbrev pub saves_loop : Option ℕ → ℕ → Asker → Looper → Looper
saves_loop None k asker l = with_save_of k asker l
saves_loop (Some _) k asker l = l

-- the looper after a save of the session, by the answer at once
abbrev pub saves_session : Option ℕ → Asker → Looper → Looper
saves_session None asker l =
    record l { tracks = map (pinned_for asker) l.tracks; saves = l.saves + 1 }
saves_session (Some _) asker l = l

-- the looper after a release
abbrev pub releases : Target → Looper → Looper
releases (One k) l = record l { tracks = at_index k (λ reach t. loop_released t) 0 l.tracks }
releases All l = record l { tracks = map session_released l.tracks }
releases Selected l = l

-- the looper after the command of a valid entry at a frame
abbrev pub performed : Command → ℕ → Entry → Looper → Looper
performed (Down target verb) frame e l = on_target target (pressed verb frame) l
performed (Up target verb) frame e l = on_target target (released verb frame l.globals.long_press) l
performed (Hit target verb) frame e l = on_target target (given verb) l
performed (Set target control value) frame e l = on_target target (sets control value) l
performed (SetGlobal control value) frame e l =
    record l { globals = with_global control value l.globals }
performed (Get target control) frame e l = l
performed (GetGlobal control) frame e l = l
performed (SaveLoop target name) frame e l =
    saves_loop (refusal_at target l) (index_of target l.globals.selected_loop_num)
    (asker_of e false) l
performed (SaveSession name) frame e l =
    saves_session (session_refusal l.tracks) (asker_of e true) l
performed (Release target outcome) frame e l = releases target l
performed Quit frame e l = l

-- the looper after an entry that applies at a frame
abbrev pub applied : ℕ → Entry → Looper → Looper
applied frame e l = if is_taken e l then performed e.command frame e l else l

-- an answer to this entry
abbrev pub reply_to : Entry → ℤ → What → ℤ → Reply
reply_to e index what value =
    record { sender = e.sender; seq = e.seq; index = index; what = what; value = value }

-- an answer to the save of this asker
abbrev pub outcome_for : ℤ → What → ℕ → Asker → Reply
outcome_for index what outcome asker =
    record {
      sender = asker.sender;
      seq = asker.seq;
      index = index;
      what = what;
      value = pos outcome;
    }

-- the value of a control of a track
abbrev pub value_on : Control → ℕ → Track → ℤ
value_on control free t = reply_value (pos (loop_value control free t.loop.controls (face_on t)))

-- the asker whose save a release of this index ends
abbrev pub ended_asker : ℕ → Looper → Option Asker
ended_asker k l = option_and_then (λ t. loop_asker t.asker) (slice_get l.tracks k)

-- the reply to a release
abbrev pub release_reply : Target → ℕ → Looper → Option Reply
release_reply (One k) outcome l = option_map (outcome_for (pos k) OfLoop outcome) (ended_asker k l)
release_reply All outcome l =
    option_map (outcome_for (negsuc 1) OfSession outcome) (running_session l.tracks)
release_reply Selected outcome l = None

-- the reply to the command of a valid entry
abbrev pub reply_of : Command → Entry → Looper → Option Reply
reply_of (Get target control) e l =
    option_map (λ t. reply_to e (reply_index target l) (Value control)
    (value_on control (free_of l.chunks l.tracks) t)) (track_of target l)
reply_of (GetGlobal control) e l =
    Some (reply_to e (negsuc 1) (Value control) (reply_value (global_value control l.globals)))
reply_of (SaveLoop target name) e l =
    option_map (λ refusal. reply_to e (reply_index target l) OfLoop (pos refusal))
    (refusal_at target l)
reply_of (SaveSession name) e l =
    option_map (λ refusal. reply_to e (negsuc 1) OfSession (pos refusal)) (session_refusal l.tracks)
reply_of (Release target outcome) e l = release_reply target outcome l
reply_of _ e l = None

-- the reply that an entry gives
abbrev pub reply : Entry → Looper → Option Reply
reply e l = if is_taken e l then reply_of e.command e l else None

-- the save of this track
abbrev pub loop_save : Target → List ℕ → Looper → Track → Save
loop_save target name l t =
    record {
      number = l.saves;
      target = One (index_of target l.globals.selected_loop_num);
      name = name;
      settings = settings_of l;
      lists = list_on t ∷ [];
    }

-- the save of the session
abbrev pub session_save : List ℕ → Looper → Save
session_save name l =
    record {
      number = l.saves;
      target = All;
      name = name;
      settings = settings_of l;
      lists = map list_on l.tracks;
    }

-- the save that is made, by the answer at once
abbrev pub unless_refused : Option ℕ → Option Save → Option Save
unless_refused None save = save
unless_refused (Some _) save = None

-- the save that the command of a valid entry makes
abbrev pub save_of : Command → Looper → Option Save
save_of (SaveLoop target name) l =
    unless_refused (refusal_at target l) (option_map (loop_save target name l) (track_of target l))
save_of (SaveSession name) l =
    unless_refused (session_refusal l.tracks) (Some (session_save name l))
save_of _ l = None

-- the save that an entry makes
abbrev pub save : Entry → Looper → Option Save
save e l = if is_taken e l then save_of e.command l else None
