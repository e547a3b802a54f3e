-- Each save that an entry makes is one whose blocks may follow, and so is each save of a run.
use Rattle.std.proofs.Common.{◌≡◌, ◌⊎◌, ℕ, ◌+◌, ◌<◌, true, List, [], ◌∷◌, map, length, Option, Some, None, option_to_list, refl, sym, subst, inl, inr, nat_le, arith}
use Rattle.std.specs.Prelude.{◌&&◌}
use Rattle.std.specs.List.{AllByRecursion, list_all, range_with_len}
use Rattle.std.proofs.lemmas.Bool.{and_parts, and_from, le-leb, lt-ltb, eq-eqb}
use Rattle.std.proofs.lemmas.List.{length-map}
use Rattle.std.proofs.lemmas.Option.{slice_get_within}
use Rattle.sl_base.specs.Limits.{max_list_frames}
use Rattle.sl_base.specs.Sounds.{Sound}
use Rattle.sl_base.specs.Names.{is_name}
use Rattle.sl_commands.specs.declared.Target.{Target}
use Rattle.sl_commands.specs.declared.Target.TheVariants.{One}
use Rattle.sl_commands.specs.declared.Command.{Command}
use Rattle.sl_commands.specs.declared.Command.TheVariants.{SaveLoop, SaveSession}
use Rattle.sl_commands.specs.declared.Entry.{Entry}
use Rattle.sl_commands.specs.Commands.{is_single_target, is_allowed}
use Rattle.sl_commands.specs.Entries.{is_sender}
use Rattle.sl_commands.specs.Settings.{is_strip, are_strips, are_globals, is_rate, is_loop_count, are_settings}
use Rattle.sl_commands.specs.Blocks.{has_list}
use Rattle.looper_rules.specs.Layers.{content_of, current_cells}
use Rattle.looper_rules.specs.Looper.{Track, Looper, index_of}
use Rattle.looper_rules.specs.Saves.{Save, list_on, strip_on, settings_of}
use Rattle.looper_rules.specs.Entries.{is_taken, track_of, save, save_of, loop_save, session_save, applied}
use Rattle.looper_rules.specs.Frame.{framed}
use Rattle.looper_rules.specs.Run.{entered, due, later, begun}
use Rattle.looper_rules.specs.Cuts.{run_from}
use Rattle.looper_rules.specs.SaveBlocks.{IsMade, AreSent}
use Rattle.looper_rules.specs.States.{IsTrack, IsLooper}
use Rattle.looper_rules.specs.Reached.{KeepsLooper}
use Rattle.run_laws.proofs.Saves.Entries.{taken_if_some, save-of_loop, save-of_session, save-only}
use Rattle.run_laws.proofs.Saves.Holds.{all_append}
use Rattle.run_laws.proofs.Saves.Owners.{track_at}
use Rattle.looper_laws.proofs.Kept.Starts.{strip_valid, current_short}
use Rattle.looper_laws.proofs.Kept.Runs.{entry_keeps, entered_keeps, frame_keeps, begun_keeps}

-- the settings of a looper lie in their ranges
strips_valid : (frame : ℕ) (ts : List Track) → AllByRecursion (IsTrack frame) ts →
    are_strips (map strip_on ts) ≡ true
strips_valid frame [] h = refl
strips_valid frame (t ∷ ts) h = and_from (is_strip (strip_on t)) (are_strips (map strip_on ts))
    (strip_valid frame t h.0) (strips_valid frame ts h.1)

pub settings_valid : (frame : ℕ) (l : Looper) → IsLooper frame l →
    are_settings (settings_of l) ≡ true
settings_valid frame l h =
    let same : length (map strip_on l.tracks) ≡ length l.tracks = length-map l.tracks strip_on in
    let loops = length (map strip_on l.tracks) in
    let count : is_loop_count loops ≡ true =
    subst (λ n. is_loop_count n ≡ true) (sym same) h.count in
    let globals : are_globals loops l.globals ≡ true =
    subst (λ n. are_globals n l.globals ≡ true) (sym same) h.globals in
    and_from (is_rate l.rate && is_loop_count loops && are_globals loops l.globals)
    (are_strips (map strip_on l.tracks))
    (and_from (is_rate l.rate && is_loop_count loops) (are_globals loops l.globals)
    (and_from (is_rate l.rate) (is_loop_count loops) h.rate count) globals)
    (strips_valid frame l.tracks h.tracks)

-- a list of a track isn't too long
short_list : (frame : ℕ) (t : Track) → IsTrack frame t →
    nat_le (length (list_on t)) max_list_frames ≡ true
short_list frame t h =
    let same : length (list_on t) ≡ length (current_cells t.loop.stack.layers) =
    length-map (current_cells t.loop.stack.layers) content_of in
    subst (λ n. nat_le n max_list_frames ≡ true) (sym same)
    (le-leb (length (current_cells t.loop.stack.layers)) max_list_frames
    (current_short t.loop.stack.tape t.loop.stack.layers h.loop.stack.layers_within))

short_lists : (frame : ℕ) (ts : List Track) → AllByRecursion (IsTrack frame) ts →
    list_all (λ (list : List Sound). nat_le (length list) max_list_frames) (map list_on ts) ≡ true
short_lists frame [] h = refl
short_lists frame (t ∷ ts) h =
    and_from (nat_le (length (list_on t)) max_list_frames)
    (list_all (λ (list : List Sound). nat_le (length list) max_list_frames) (map list_on ts))
    (short_list frame t h.0) (short_lists frame ts h.1)

-- what a valid entry's command may say
allowed : (e : Entry) (l : Looper) (c : Command) → e.command ≡ c → is_taken e l ≡ true →
    is_allowed (length l.tracks) c ≡ true
allowed e l c is taken =
    subst (λ d. is_allowed (length l.tracks) d ≡ true) is
    (and_parts (is_sender e.sender e.command) (is_allowed (length l.tracks) e.command) taken).1

-- the save of a loop
has_one : (i loops k : ℕ) → k < 1 → has_list (One i) loops (i + k) ≡ true
has_one i loops k below = eq-eqb (i + k) i (omega arith)

loop_made : (frame : ℕ) (e : Entry) (l : Looper) (target : Target) (name : List ℕ) (t : Track) →
    IsLooper frame l → e.command ≡ SaveLoop target name →
    is_taken e l ≡ true → track_of target l ≡ Some t → IsMade (loop_save target name l t)
loop_made frame e l target name t h is taken there =
    let k = index_of target l.globals.selected_loop_num in
    let loops = length (map strip_on l.tracks) in
    let same : loops ≡ length l.tracks = length-map l.tracks strip_on in
    let inside : k < length l.tracks = slice_get_within l.tracks k t there in
    let words = and_parts (is_single_target (length l.tracks) target) (is_name name)
    (allowed e l (SaveLoop target name) is taken) in
    let short : nat_le (length (list_on t)) max_list_frames ≡ true =
    short_list frame t (track_at frame k l.tracks t h.tracks there) in
    record {
      sent = record {
        save = record {
          kind = refl;
          named = refl;
          each = has_one k loops;
          short =
              and_from (nat_le (length (list_on t)) max_list_frames) true short refl;
        };
        count = refl;
      };
      name = words.1;
      settings = settings_valid frame l h;
      target = lt-ltb k loops (omega arith);
    }

-- the save of the session
session_made : (frame : ℕ) (e : Entry) (l : Looper) (name : List ℕ) → IsLooper frame l →
    e.command ≡ SaveSession name → is_taken e l ≡ true →
    IsMade (session_save name l)
session_made frame e l name h is taken =
    let loops = length (map strip_on l.tracks) in
    let strips : loops ≡ length l.tracks = length-map l.tracks strip_on in
    let lists : length (map list_on l.tracks) ≡ length l.tracks = length-map l.tracks list_on in
    let words = and_parts (is_name name) (nat_le (length name) 48)
    (allowed e l (SaveSession name) is taken) in
    record {
      sent = record {
        save = record {
          kind = refl;
          named = words.1;
          each = λ k below.
              lt-ltb (0 + k) loops (omega arith);
          short = short_lists frame l.tracks h.tracks;
        };
        count = (omega arith);
      };
      name = words.0;
      settings = settings_valid frame l h;
      target = refl;
    }

-- what an entry saves
pub save-made : (frame : ℕ) (e : Entry) (l : Looper) (s : Save) → KeepsLooper frame l →
    save e l ≡ Some s → IsMade s
save-made frame e l s h made = by_command (save-only e l s made)
  where
    taken : is_taken e l ≡ true
    taken = taken_if_some (is_taken e l) (save_of e.command l) s made

    by_command : ((target : Target) × (name : List ℕ) × (e.command ≡ SaveLoop target name))
        ⊎ ((name : List ℕ) × (e.command ≡ SaveSession name)) → IsMade s
    by_command (inl (target, name, is)) =
        let loop = save-of_loop e l s target name is made in
        subst IsMade (sym loop.2) (loop_made frame e l target name loop.0 h.looper is taken loop.1)
    by_command (inr (name, is)) = subst IsMade (sym (save-of_session e l s name is made))
        (session_made frame e l name h.looper is taken)

save_made : (frame : ℕ) (e : Entry) (l : Looper) (o : Option Save) → KeepsLooper frame l →
    save e l ≡ o → AllByRecursion IsMade (option_to_list o)
save_made frame e l None h is = tt
save_made frame e l (Some s) h is = (save-made frame e l s h is, tt)

-- what some entries save, some frames and a run
entered-made : (frame : ℕ) (es : List Entry) (l : Looper) → KeepsLooper frame l →
    AllByRecursion IsMade (entered frame es l).saves
entered-made frame [] l h = tt
entered-made frame (e ∷ es) l h =
    all_append IsMade (option_to_list (save e l)) (entered frame es (applied frame e l)).saves
    (save_made frame e l (save e l) h refl)
    (entered-made frame es (applied frame e l) (entry_keeps frame e l h))

pub begun-made : (frame : ℕ) (es : List Entry) (xs : List Sound) (l : Looper) →
    KeepsLooper frame l → AllByRecursion IsMade (begun frame es xs l).saves
begun-made frame es [] l h = tt
begun-made frame es (x ∷ xs) l h =
    let before = entered frame (due frame es) l in
    let now = framed frame x before.looper in
    all_append IsMade before.saves (begun (frame + 1) (later frame es) xs now.looper).saves
    (entered-made frame (due frame es) l h)
    (begun-made (frame + 1) (later frame es) xs now.looper
    (frame_keeps frame frame x before.looper (entered_keeps frame (due frame es) l h)))

pub run_from-made : (frame : ℕ) (es : List Entry) (xs : List Sound) (l : Looper) →
    KeepsLooper frame l → AllByRecursion IsMade (run_from frame es xs l).saves
run_from-made frame es xs l h =
    let first = begun frame es xs l in
    all_append IsMade first.saves (entered (frame + length xs) first.left first.looper).saves
    (begun-made frame es xs l h)
    (entered-made (frame + length xs) first.left first.looper (begun_keeps frame es xs l h))

-- saves that are made and numbered in order may be sent
pub sent_in_order : (first : ℕ) (saves : List Save) → AllByRecursion IsMade saves →
    map (λ (s : Save). s.number) saves ≡ range_with_len first (length saves) → AreSent first saves
sent_in_order first [] made numbers = tt
sent_in_order first (s ∷ saves) made numbers =
    let here : s.number ≡ first = cc in
    let behind : map (λ (s : Save). s.number) saves ≡ range_with_len (first + 1) (length saves) =
    cc in
    (here, made.0.sent, sent_in_order (first + 1) saves made.1 behind)
