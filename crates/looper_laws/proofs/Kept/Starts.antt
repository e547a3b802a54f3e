-- The looper that a run begins with has what it has to keep, and what is kept is what always holds.
use Rattle.std.proofs.Common.{◌≡◌, ℕ, zero, suc, ◌+◌, ◌≤◌, Bool, true, List, [], ◌∷◌, length, map, replicate, refl, sym, ap, subst, arith, nat_le, leb-true}
use Rattle.std.specs.Prelude.{◌&&◌, IsTrue, pos}
use Rattle.std.proofs.lemmas.Bool.{and_parts, and_from, le-leb}
use Rattle.std.proofs.lemmas.List.{length-map}
use Rattle.std.proofs.lemmas.List.Sums.{sum_by-cons}
use Rattle.std.specs.List.{AllByRecursion}
use Rattle.sl_base.specs.Sounds.{Sound}
use Rattle.sl_commands.specs.declared.Mode.{Mode}
use Rattle.sl_commands.specs.declared.Mode.TheVariants.{Off, WaitStart, Recording, Overdubbing, Multiplying, Inserting, Replacing, Substituting}
use Rattle.sl_commands.specs.declared.Control.TheVariants.{Feedback, Wet, Round, Quantize, RecThresh}
use Rattle.sl_commands.specs.declared.Entry.{Entry}
use Rattle.sl_commands.specs.declared.StripSettings.{StripSettings}
use Rattle.sl_commands.specs.Controls.{is_in_range}
use Rattle.sl_commands.specs.Settings.{LooperSettings, default_strip, default_settings, are_globals, is_cycle_of, is_strip, are_strips, is_rate, is_loop_count}
use Rattle.sl_base.specs.Limits.{max_list_frames}
use Rattle.sl_commands.proofs.SettingsLemmas.{are_settings-default}
use Rattle.looper_rules.specs.Layers.{Layer, old_cell, old_cells, current_length, current_cycle}
use Rattle.looper_rules.specs.Stack.{empty_stack}
use Rattle.looper_rules.specs.Room.{chunks_of, used}
use Rattle.looper_rules.specs.Loop.{length_of}
use Rattle.looper_rules.specs.Looper.{Track, tape_of}
use Rattle.looper_rules.specs.Values.{AreControls}
use Rattle.looper_rules.specs.Saves.{saved_cycle, strip_of}
use Rattle.looper_rules.specs.Run.{controls_of, loaded_layer, loaded_stack, first_track, first_tracks, start, begun, entered}
use Rattle.looper_rules.specs.States.{IsClosed, IsOpenOver, AreClosed, HasCurrent, AreWaiting, InMode, AreWithin, IsStack, IsTrack, IsLooper}
use Rattle.looper_rules.specs.Reached.{KeepsLooper, AreLists, IsBeginning}
use Rattle.looper_laws.proofs.Kept.Layers.{contents-old_cells}
use Rattle.looper_laws.proofs.Kept.Tracks.{KeepsTrack, used-cons, wet_within, are_tracks}
use Rattle.looper_laws.proofs.Kept.Settings.{dry_range}
use Rattle.looper_laws.proofs.Kept.Sessions.{first-whole}
use Rattle.looper_laws.proofs.Kept.Runs.{begun_keeps, entered_keeps}

-- what a strip's settings say, one by one
record InStrip (s : StripSettings) : Type 0 where
  length_to : s.length ≤ max_list_frames
  cycle : is_cycle_of s.length s.cycle ≡ true
  controls : AreControls (controls_of s)

-- seven tests at once
all_seven :
    (a b c d e f g : Bool) → (a && b && c && d && e && f && g) ≡ true →
    (a ≡ true) × (b ≡ true) × (c ≡ true) × (d ≡ true) × (e ≡ true) × (f ≡ true) × (g ≡ true)
all_seven a b c d e f g h =
    let six = and_parts (a && b && c && d && e && f) g h
    in let five = and_parts (a && b && c && d && e) f six.0
    in let four = and_parts (a && b && c && d) e five.0
    in let three = and_parts (a && b && c) d four.0
    in let two = and_parts (a && b) c three.0
    in let one = and_parts a b two.0
    in (one.0, one.1, two.1, three.1, four.1, five.1, six.1)

in_strip : (s : StripSettings) → is_strip s ≡ true → InStrip s
in_strip s h =
    let seven = all_seven (nat_le s.length max_list_frames) (is_cycle_of s.length s.cycle)
    (is_in_range Feedback (pos s.feedback) 0) (is_in_range Wet (pos s.wet) 0)
    (is_in_range Round (pos s.round) 0) (is_in_range Quantize (pos s.quantize) 0)
    (is_in_range RecThresh (pos s.rec_thresh) 0) h
    in record {
      length_to = leb-true s.length max_list_frames seven.0;
      cycle = seven.1;
      controls =
          record {
            feedback = seven.2;
            wet = seven.3;
            round = seven.4;
            quantize =
                seven.5;
            rec_thresh = seven.6;
          };
    }

-- the layer of a list that is loaded
loaded_closed :
    {A : Type 0} (x : A) (xs : List A) (cycle end : ℕ) →
    is_cycle_of (suc (length xs)) cycle ≡ true →
    IsClosed (loaded_layer (x ∷ xs) cycle end)
loaded_closed x xs cycle end fits =
    let parts = and_parts (nat_le 1 cycle) (nat_le cycle (suc (length xs))) fits
    in let same : length (old_cells (x ∷ xs)) ≡ suc (length xs) = length-map (x ∷ xs) old_cell
    in let to : cycle ≤ suc (length xs) = leb-true cycle (suc (length xs)) parts.1
    in record {
      not_empty = omega arith;
      not_fresh = ap old_cells (sym (contents-old_cells (x ∷ xs)));
      no_base = refl;
      no_base_seams = refl;
      cycle_from = leb-true 1 cycle parts.0;
      cycle_to = omega arith;
    }

-- a track that begins with this list
first_keeps :
    (chunks : ℕ) (list : List Sound) (s : StripSettings) → is_strip s ≡ true →
    length list ≡ s.length →
    chunks_of (length list) ≤ chunks → KeepsTrack chunks 0 (first_track list s)
first_keeps chunks [] s valid same within =
    let strip = in_strip s valid
    in let nothing : IsStack empty_stack =
    record {
      layers_within = tt;
      redo_within = tt;
      pin_within = omega arith;
      count =
          omega arith;
      seams = omega arith;
      order = tt;
      redo_order = tt;
    }
    in record {
      track = record {
        loop = record {
          in_mode = ((refl, refl), tt);
          streak = refl;
          stack = nothing;
          refused =
              omega arith;
        };
        controls = strip.controls;
        gain = wet_within (controls_of s) strip.controls;
        press = tt;
        asker = refl;
      };
      within = within;
    }
first_keeps chunks (x ∷ xs) s valid same within =
    let strip = in_strip s valid
    in let most : s.length ≤ max_list_frames = strip.length_to
    in let cells : length (old_cells (x ∷ xs)) ≡ suc (length xs) = length-map (x ∷ xs) old_cell
    in let short : length (old_cells (x ∷ xs)) ≤ max_list_frames = omega arith
    in let closed : IsClosed (loaded_layer (x ∷ xs) s.cycle (length (x ∷ xs))) =
    loaded_closed x xs s.cycle (length (x ∷ xs))
    (subst (λ n. is_cycle_of n s.cycle ≡ true) (sym same) strip.cycle)
    in let all : suc (length xs) ≤ suc (length xs) = omega arith
    in let stack : IsStack (loaded_stack (x ∷ xs) s.cycle) =
    record {
      layers_within = ((short, all), tt);
      redo_within = tt;
      pin_within = omega arith;
      count = omega arith;
      seams = omega arith;
      order = (omega arith, tt);
      redo_order = tt;
    }
    in record {
      track = record {
        loop = record {
          in_mode = (((closed, tt), closed.not_empty), tt);
          streak = refl;
          stack =
              stack;
          refused = omega arith;
        };
        controls = strip.controls;
        gain = wet_within (controls_of s) strip.controls;
        press = tt;
        asker = refl;
      };
      within = within;
    }

-- the tape of such a track is as long as its list
first_tape : (list : List Sound) (s : StripSettings) → tape_of (first_track list s) ≡ length list
first_tape [] s = refl
first_tape (x ∷ xs) s = refl

-- the tracks that a run begins with
record AreFirst (chunks : ℕ) (strips : List StripSettings)
    (lists : List (List Sound)) : Type 0 where
  tracks : AllByRecursion (KeepsTrack chunks 0) (first_tracks strips lists)
  uses : used (map tape_of (first_tracks strips lists)) ≡ used (map length lists)
  count : length (first_tracks strips lists) ≡ length strips

first_all :
    (chunks : ℕ) (strips : List StripSettings) (lists : List (List Sound)) →
    are_strips strips ≡ true → AreLists strips lists →
    used (map length lists) ≤ chunks → AreFirst chunks strips lists
first_all chunks [] [] valid agree within = record { tracks = tt; uses = refl; count = refl }
first_all chunks [] (list ∷ lists) valid agree within = absurd agree
first_all chunks (s ∷ ss) [] valid agree within =
    let parts = and_parts (is_strip s) (are_strips ss) valid
    in let rest = first_all chunks ss [] parts.1 agree.1 within
    in let those : used (map tape_of (first_tracks ss [])) ≡ 0 = rest.uses
    in let uses = used-cons (first_track [] s) (first_tracks ss [])
    in let none : chunks_of (tape_of (first_track [] s)) ≡ 0 = refl
    in record {
      tracks = (first_keeps chunks [] s parts.0 (sym agree.0) (omega arith), rest.tracks);
      uses = (let sum : used (map tape_of (first_tracks (s ∷ ss) [])) ≡ 0 = omega arith in sum);
      count = ap suc rest.count;
    }
first_all chunks (s ∷ ss) (list ∷ lists) valid agree within =
    let parts = and_parts (is_strip s) (are_strips ss) valid
    in let sum : used (map length (list ∷ lists)) ≡ chunks_of (length list)
    + used (map length lists) = sum_by-cons chunks_of (length list) (map length lists)
    in let rest = first_all chunks ss lists parts.1 agree.1 (omega arith)
    in let those : used (map tape_of (first_tracks ss lists)) ≡ used (map length lists) = rest.uses
    in let one : chunks_of (tape_of (first_track list s)) ≡ chunks_of (length list) =
    ap chunks_of (first_tape list s)
    in let uses = used-cons (first_track list s) (first_tracks ss lists)
    in record {
      tracks = (first_keeps chunks list s parts.0 (sym agree.0) (omega arith), rest.tracks);
      uses = omega arith;
      count = ap suc rest.count;
    }

-- the looper that a run begins with
pub start_keeps :
    (settings : LooperSettings) (chunks : ℕ) (lists : List (List Sound)) →
    IsBeginning settings chunks lists →
    IsLooper 0 (start settings chunks lists)
start_keeps settings chunks lists h =
    let parts = and_parts
    (is_rate settings.rate && is_loop_count (length settings.strips) && are_globals
    (length settings.strips) settings.globals) (are_strips settings.strips) h.in_range
    in let globals = and_parts (is_rate settings.rate && is_loop_count (length settings.strips))
    (are_globals (length settings.strips) settings.globals) parts.0
    in let counts = and_parts (is_rate settings.rate) (is_loop_count (length settings.strips))
    globals.0
    in let first = first_all chunks settings.strips lists parts.1 h.lengths h.fits
    in let uses : used (map tape_of (first_tracks settings.strips lists)) ≡ used
    (map length lists) = first.uses
    in let fits : used (map length lists) ≤ chunks = h.fits
    in record {
      tracks = are_tracks chunks 0 (first_tracks settings.strips lists) first.tracks;
      rate = counts.0;
      count = subst (λ n. IsTrue (is_loop_count n)) (sym first.count) counts.1;
      globals = subst (λ n. IsTrue (are_globals n settings.globals)) (sym first.count) globals.1;
      dry =
          leb-true settings.globals.dry 1000
          (and_parts (nat_le 0 settings.globals.dry) (nat_le settings.globals.dry 1000)
          (dry_range (length settings.strips) settings.globals globals.1)).1;
      chunks = omega arith;
    }

-- a cycle of 1 to a length is a cycle of it
cycle_of_some : (len cycle : ℕ) → 1 ≤ len → 1 ≤ cycle → cycle ≤ len → is_cycle_of len cycle ≡ true
cycle_of_some zero cycle some from to = absurd (let none : ⊥ = omega arith in none)
cycle_of_some (suc n) cycle some from to =
    and_from (nat_le 1 cycle) (nat_le cycle (suc n)) (le-leb 1 cycle from) (le-leb cycle (suc n) to)

-- a length is a cycle of itself
cycle_of_all : (len : ℕ) → is_cycle_of len len ≡ true
cycle_of_all zero = refl
cycle_of_all (suc n) = and_from (nat_le 1 (suc n)) (nat_le (suc n) (suc n))
    (le-leb 1 (suc n) (omega arith)) (le-leb (suc n) (suc n) (omega arith))

-- the cycle that a save tells fits the length, by the current layer
closed_cycle : {A : Type 0} (layers : List (Layer A)) → AreClosed layers →
    is_cycle_of (current_length layers) (current_cycle layers) ≡ true
closed_cycle [] closed = refl
closed_cycle (l ∷ ls) closed =
    cycle_of_some (length l.cells) l.cycle closed.0.not_empty closed.0.cycle_from closed.0.cycle_to

open_cycle : {A : Type 0} (layers : List (Layer A)) → HasCurrent IsOpenOver layers →
    is_cycle_of (current_length layers) (current_cycle layers) ≡ true
open_cycle [] has = absurd has
open_cycle (l ∷ ls) has =
    let base : length l.base ≤ length l.cells = has.0.base_within
    in let some : 1 ≤ length l.base = has.0.base_not_empty
    in let to : l.cycle ≤ length l.base = has.0.cycle_to
    in cycle_of_some (length l.cells) l.cycle (omega arith) has.0.cycle_from (omega arith)

waiting_cycle :
    {A : Type 0} (layers : List (Layer A)) (at : ℕ) → AreWaiting layers at →
    is_cycle_of (current_length layers) (current_cycle layers) ≡ true
waiting_cycle [] at h = refl
waiting_cycle (l ∷ ls) at h = closed_cycle (l ∷ ls) h.0

-- and by the mode
told_in_mode :
    {A : Type 0} (mode : Mode) (layers redo : List (Layer A)) (at : ℕ) (backward : Bool) →
    InMode mode layers redo at backward →
    is_cycle_of (current_length layers)
    (saved_cycle mode (current_length layers) (current_cycle layers)) ≡ true
told_in_mode Off layers redo at backward h =
    subst (λ ls. is_cycle_of (current_length ls) (current_cycle ls) ≡ true) (sym h.0.0) refl
told_in_mode WaitStart layers redo at backward h = waiting_cycle layers at h.0
told_in_mode Recording layers redo at backward h = cycle_of_all (current_length layers)
told_in_mode Overdubbing layers redo at backward h = open_cycle layers h.0
told_in_mode Replacing layers redo at backward h = open_cycle layers h.0
told_in_mode Substituting layers redo at backward h = open_cycle layers h.0
told_in_mode Inserting layers redo at backward h = open_cycle layers h.0.0
told_in_mode Multiplying layers redo at backward h = open_cycle layers h.0
told_in_mode _ layers redo at backward h = closed_cycle layers h.0.0

-- the current list isn't too long
pub current_short : {A : Type 0} (tape : ℕ) (layers : List (Layer A)) → AreWithin tape layers →
    current_length layers ≤ max_list_frames
current_short tape [] within = omega arith
current_short tape (l ∷ ls) within = within.0.0

-- the settings of a loop are those of a strip
pub strip_valid : (frame : ℕ) (t : Track) → IsTrack frame t → is_strip (strip_of t.loop) ≡ true
strip_valid frame t h =
    and_from _ _ (and_from _ _ (and_from _ _ (and_from _ _ (and_from _ _ (and_from _ _
    (le-leb (length_of t.loop) max_list_frames
    (current_short t.loop.stack.tape t.loop.stack.layers h.loop.stack.layers_within))
    (told_in_mode t.loop.deck.mode t.loop.stack.layers t.loop.stack.redo t.loop.deck.pos
    t.loop.deck.backward h.loop.in_mode))
    h.controls.feedback) h.controls.wet) h.controls.round) h.controls.quantize)
    h.controls.rec_thresh

-- a run begins with a looper that keeps all this
pub begins :
    (settings : LooperSettings) (chunks : ℕ) (lists : List (List Sound)) →
    IsBeginning settings chunks lists →
    KeepsLooper 0 (start settings chunks lists)
begins settings chunks lists h = record {
  looper = start_keeps settings chunks lists h;
  session =
      first-whole settings.strips lists;
}

-- after some frames of a run
pub runs_begun :
    (settings : LooperSettings) (chunks : ℕ) (lists : List (List Sound)) →
    IsBeginning settings chunks lists →
    (es : List Entry) (xs : List Sound) →
    KeepsLooper (length xs) (begun 0 es xs (start settings chunks lists)).looper
runs_begun settings chunks lists h es xs =
    let same : 0 + length xs ≡ length xs = omega arith
    in subst (λ frame. KeepsLooper frame (begun 0 es xs (start settings chunks lists)).looper) same
    (begun_keeps 0 es xs (start settings chunks lists) (begins settings chunks lists h))

-- and after some entries behind them
pub runs_entered :
    (settings : LooperSettings) (chunks : ℕ) (lists : List (List Sound)) →
    IsBeginning settings chunks lists →
    (es more : List Entry) (xs : List Sound) →
    KeepsLooper (length xs)
    (entered (length xs) more (begun 0 es xs (start settings chunks lists)).looper).looper
runs_entered settings chunks lists h es more xs =
    entered_keeps (length xs) more (begun 0 es xs (start settings chunks lists)).looper
    (runs_begun settings chunks lists h es xs)

-- new loops may begin a run
new_lists : (loops : ℕ) → AreLists (replicate loops default_strip) []
new_lists zero = tt
new_lists (suc n) = (refl, new_lists n)

pub new_begins : (rate loops chunks : ℕ) → is_rate rate ≡ true → is_loop_count loops ≡ true →
    IsBeginning (default_settings rate loops) chunks []
new_begins rate loops chunks rated counted =
    record {
      in_range = are_settings-default rate loops rated counted;
      lengths = new_lists loops;
      fits = omega arith;
    }
