-- The names of verbs and controls, and the values of controls.
use Rattle.std.proofs.Common.{◌≡◌, ℕ, ◌<◌, ◌≤◌, ◌^◌, true, List, find, refl, sym, ap, ◌∙◌, arith, leb}
use Rattle.std.specs.Prelude.{ℤ, pos, negsuc, ◌≤ℤ◌, unsigned_abs, Option, Some, IsTrue}
use Rattle.std.proofs.lemmas.Bool.{and_parts, leb-true, ltb-true, eqb-true, false≢true}
use Rattle.std.proofs.lemmas.Int.{ints}
use Rattle.sl_commands.specs.declared.verb.Verb.{Verb}
use Rattle.sl_commands.specs.declared.verb.Verb.TheVariants.{Rec, Overdub, Multiply, Insert, Replace, Substitute, Mute, MuteOn, MuteOff, OneShot, Trigger, Reverse, Pause, Undo, Redo, UndoAll, RedoAll}
use Rattle.sl_commands.specs.declared.control.Control.{Control}
use Rattle.sl_commands.specs.declared.control.Control.TheVariants.{Feedback, Wet, Round, Quantize, RecThresh, State, LoopLen, LoopPos, CycleLen, Waiting, Layers, RedoLayers, Refused, Reversed, FreeTime, Dry, SyncSource, SelectedLoopNum, FadeStep, LongPress, Pulse}
use Rattle.sl_commands.specs.declared.control.Range.{Range}
use Rattle.sl_commands.specs.declared.control.Range.TheVariants.{ReadOnly, Between, Source, LoopIndex}
use Rattle.sl_commands.specs.Verbs.{verb_name, verbs, has_verb_name}
use Rattle.sl_commands.specs.Controls.{control_row, control_name, controls, has_control_name, is_within, is_in_range}
use Rattle.text_lines.specs.Lines.{IsWord}
use Rattle.text_lines.specs.Shapes.{is_some}
use Rattle.text_lines.proofs.WordLemmas.{printed_is_word}

-- the first verb and the first control of a name
abbrev verb_from : List ℕ → Option Verb
verb_from name = find (has_verb_name name) verbs

abbrev control_from : List ℕ → Option Control
control_from name = find (has_control_name name) controls

-- what is there is one
some_is_one : {A : Type 0} {a b : A} → Some a ≡ Some b → a ≡ b
some_is_one same = Prim.cc

-- a verb is the first of its name
verb_comes_back : (verb : Verb) → verb_from (verb_name verb) ≡ Some verb
verb_comes_back Rec = refl
verb_comes_back Overdub = refl
verb_comes_back Multiply = refl
verb_comes_back Insert = refl
verb_comes_back Replace = refl
verb_comes_back Substitute = refl
verb_comes_back Mute = refl
verb_comes_back MuteOn = refl
verb_comes_back MuteOff = refl
verb_comes_back OneShot = refl
verb_comes_back Trigger = refl
verb_comes_back Reverse = refl
verb_comes_back Pause = refl
verb_comes_back Undo = refl
verb_comes_back Redo = refl
verb_comes_back UndoAll = refl
verb_comes_back RedoAll = refl

-- a control is the first of its name
control_comes_back : (control : Control) → control_from (control_name control) ≡ Some control
control_comes_back Feedback = refl
control_comes_back Wet = refl
control_comes_back Round = refl
control_comes_back Quantize = refl
control_comes_back RecThresh = refl
control_comes_back State = refl
control_comes_back LoopLen = refl
control_comes_back LoopPos = refl
control_comes_back CycleLen = refl
control_comes_back Waiting = refl
control_comes_back Layers = refl
control_comes_back RedoLayers = refl
control_comes_back Refused = refl
control_comes_back Reversed = refl
control_comes_back FreeTime = refl
control_comes_back Dry = refl
control_comes_back SyncSource = refl
control_comes_back SelectedLoopNum = refl
control_comes_back FadeStep = refl
control_comes_back LongPress = refl
control_comes_back Pulse = refl

-- so a name is that of one alone
pub verb_is_one : (verb other : Verb) → verb_name verb ≡ verb_name other → verb ≡ other
verb_is_one verb other same =
    some_is_one (sym (verb_comes_back verb) ∙ ap verb_from same ∙ verb_comes_back other)

pub control_is_one : (control other : Control) → control_name control ≡ control_name other →
    control ≡ other
control_is_one control other same =
    some_is_one (sym (control_comes_back control) ∙ ap control_from same ∙ control_comes_back other)

-- each name is a word
pub verb_name_is_word : (verb : Verb) → IsWord (verb_name verb)
verb_name_is_word Rec = printed_is_word (verb_name Rec) refl refl
verb_name_is_word Overdub = printed_is_word (verb_name Overdub) refl refl
verb_name_is_word Multiply = printed_is_word (verb_name Multiply) refl refl
verb_name_is_word Insert = printed_is_word (verb_name Insert) refl refl
verb_name_is_word Replace = printed_is_word (verb_name Replace) refl refl
verb_name_is_word Substitute = printed_is_word (verb_name Substitute) refl refl
verb_name_is_word Mute = printed_is_word (verb_name Mute) refl refl
verb_name_is_word MuteOn = printed_is_word (verb_name MuteOn) refl refl
verb_name_is_word MuteOff = printed_is_word (verb_name MuteOff) refl refl
verb_name_is_word OneShot = printed_is_word (verb_name OneShot) refl refl
verb_name_is_word Trigger = printed_is_word (verb_name Trigger) refl refl
verb_name_is_word Reverse = printed_is_word (verb_name Reverse) refl refl
verb_name_is_word Pause = printed_is_word (verb_name Pause) refl refl
verb_name_is_word Undo = printed_is_word (verb_name Undo) refl refl
verb_name_is_word Redo = printed_is_word (verb_name Redo) refl refl
verb_name_is_word UndoAll = printed_is_word (verb_name UndoAll) refl refl
verb_name_is_word RedoAll = printed_is_word (verb_name RedoAll) refl refl

pub control_name_is_word : (control : Control) → IsWord (control_name control)
control_name_is_word Feedback = printed_is_word (control_name Feedback) refl refl
control_name_is_word Wet = printed_is_word (control_name Wet) refl refl
control_name_is_word Round = printed_is_word (control_name Round) refl refl
control_name_is_word Quantize = printed_is_word (control_name Quantize) refl refl
control_name_is_word RecThresh = printed_is_word (control_name RecThresh) refl refl
control_name_is_word State = printed_is_word (control_name State) refl refl
control_name_is_word LoopLen = printed_is_word (control_name LoopLen) refl refl
control_name_is_word LoopPos = printed_is_word (control_name LoopPos) refl refl
control_name_is_word CycleLen = printed_is_word (control_name CycleLen) refl refl
control_name_is_word Waiting = printed_is_word (control_name Waiting) refl refl
control_name_is_word Layers = printed_is_word (control_name Layers) refl refl
control_name_is_word RedoLayers = printed_is_word (control_name RedoLayers) refl refl
control_name_is_word Refused = printed_is_word (control_name Refused) refl refl
control_name_is_word Reversed = printed_is_word (control_name Reversed) refl refl
control_name_is_word FreeTime = printed_is_word (control_name FreeTime) refl refl
control_name_is_word Dry = printed_is_word (control_name Dry) refl refl
control_name_is_word SyncSource = printed_is_word (control_name SyncSource) refl refl
control_name_is_word SelectedLoopNum = printed_is_word (control_name SelectedLoopNum) refl refl
control_name_is_word FadeStep = printed_is_word (control_name FadeStep) refl refl
control_name_is_word LongPress = printed_is_word (control_name LongPress) refl refl
control_name_is_word Pulse = printed_is_word (control_name Pulse) refl refl

-- and is some bytes
pub verb_name_is_some : (verb : Verb) → is_some (verb_name verb) ≡ true
verb_name_is_some Rec = refl
verb_name_is_some Overdub = refl
verb_name_is_some Multiply = refl
verb_name_is_some Insert = refl
verb_name_is_some Replace = refl
verb_name_is_some Substitute = refl
verb_name_is_some Mute = refl
verb_name_is_some MuteOn = refl
verb_name_is_some MuteOff = refl
verb_name_is_some OneShot = refl
verb_name_is_some Trigger = refl
verb_name_is_some Reverse = refl
verb_name_is_some Pause = refl
verb_name_is_some Undo = refl
verb_name_is_some Redo = refl
verb_name_is_some UndoAll = refl
verb_name_is_some RedoAll = refl

pub control_name_is_some : (control : Control) → is_some (control_name control) ≡ true
control_name_is_some Feedback = refl
control_name_is_some Wet = refl
control_name_is_some Round = refl
control_name_is_some Quantize = refl
control_name_is_some RecThresh = refl
control_name_is_some State = refl
control_name_is_some LoopLen = refl
control_name_is_some LoopPos = refl
control_name_is_some CycleLen = refl
control_name_is_some Waiting = refl
control_name_is_some Layers = refl
control_name_is_some RedoLayers = refl
control_name_is_some Refused = refl
control_name_is_some Reversed = refl
control_name_is_some FreeTime = refl
control_name_is_some Dry = refl
control_name_is_some SyncSource = refl
control_name_is_some SelectedLoopNum = refl
control_name_is_some FadeStep = refl
control_name_is_some LongPress = refl
control_name_is_some Pulse = refl

-- the greatest value of a range, where there is one
abbrev IsSmall : Range → Type 0
IsSmall (Between least greatest first) = greatest ≤ 2147483647
IsSmall _ = Unit {0}

-- no control has a greater one
ranges_are_small : (control : Control) → IsSmall (control_row control).range
ranges_are_small Feedback = omega arith
ranges_are_small Wet = omega arith
ranges_are_small Round = omega arith
ranges_are_small Quantize = omega arith
ranges_are_small RecThresh = omega arith
ranges_are_small State = tt
ranges_are_small LoopLen = tt
ranges_are_small LoopPos = tt
ranges_are_small CycleLen = tt
ranges_are_small Waiting = tt
ranges_are_small Layers = tt
ranges_are_small RedoLayers = tt
ranges_are_small Refused = tt
ranges_are_small Reversed = tt
ranges_are_small FreeTime = tt
ranges_are_small Dry = omega arith
ranges_are_small SyncSource = tt
ranges_are_small SelectedLoopNum = tt
ranges_are_small FadeStep = omega arith
ranges_are_small LongPress = omega arith
ranges_are_small Pulse = omega arith

-- a value of 32 bits
pub record IsShort (value : ℤ) : Type 0 where
  pub low : negsuc 2147483647 ≤ℤ value
  pub high : value ≤ℤ pos 2147483647

short_at : (n : ℕ) → n ≤ 2147483647 → IsShort (pos n)
short_at n low = record { low = omega (arith, ints); high = omega (arith, ints) }

short_below : (n : ℕ) → n ≤ 2147483647 → IsShort (negsuc n)
short_below n low = record { low = omega (arith, ints); high = omega (arith, ints) }

-- what lies in a range is one
within_is_short : (range : Range) → IsSmall range → (loops : ℕ) → loops ≤ 16 → (value : ℤ) →
    is_within range loops value ≡ true → IsShort value
within_is_short ReadOnly small loops few value is = absurd (false≢true is)
within_is_short (Between least greatest first) small loops few (pos n) is =
    short_at n (omega (arith, leb-true n greatest (and_parts (leb least n) (leb n greatest) is).1))
within_is_short (Between least greatest first) small loops few (negsuc n) is =
    absurd (false≢true is)
within_is_short Source small loops few (pos n) is = short_at n (omega (arith, leb-true n loops is))
within_is_short Source small loops few (negsuc n) is =
    short_below n (let e : n ≡ 2 = eqb-true n 2 is in omega arith)
within_is_short LoopIndex small loops few (pos n) is =
    short_at n (omega (arith, ltb-true n loops is))
within_is_short LoopIndex small loops few (negsuc n) is = absurd (false≢true is)

-- what a control is set to is one
pub in_range_is_short : (control : Control) (value : ℤ) (loops : ℕ) → loops ≤ 16 →
    IsTrue (is_in_range control value loops) → IsShort value
in_range_is_short control value loops few is =
    within_is_short (control_row control).range (ranges_are_small control) loops few value is

-- it has few digits
pub short_has_few_digits : (value : ℤ) → negsuc 2147483647 ≤ℤ value → value ≤ℤ pos 2147483647 →
    unsigned_abs value < 10 ^ 19
short_has_few_digits (pos n) low high = omega (arith, ints, high)
short_has_few_digits (negsuc n) low high = omega (arith, ints, low)
