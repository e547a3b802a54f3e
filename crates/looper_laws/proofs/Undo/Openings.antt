-- A writing verb opens a loop once its open layer is closed. Undo and redo as verbs do as undo and
-- redo.
use Rattle.std.proofs.Common.{◌≡◌, ◌≢◌, ℕ, ◌≤◌, Bool, true, false, List, [], ◌∷◌, length, Some, refl, sym, ap, ◌∙◌, subst, nat_le, nat_lt, cond, arith}
use Rattle.std.specs.Prelude.{◌==◌}
use Rattle.std.proofs.lemmas.Bool.{le-leb}
use Rattle.sl_base.specs.Sounds.{Sound, loudness}
use Rattle.sl_commands.specs.declared.Verb.{Verb}
use Rattle.sl_commands.specs.declared.Verb.TheVariants.{Rec, Overdub, Multiply, Insert, Replace, Substitute, Undo, Redo}
use Rattle.sl_commands.specs.declared.Mode.{Mode}
use Rattle.sl_commands.specs.declared.Mode.TheVariants.{Off, WaitStart, Recording, Playing, Overdubbing, Multiplying, Inserting, Replacing, Substituting}
use Rattle.sl_commands.specs.declared.Started.TheVariants.{Ok}
use Rattle.looper_rules.specs.Opening.{opening}
use Rattle.looper_rules.specs.Layers.{Layer}
use Rattle.looper_rules.specs.Loop.{Controls, Loop, is_off, is_writing, length_of, in_mode}
use Rattle.looper_rules.specs.Closing.{closed_recording, closed_from, closed}
use Rattle.looper_rules.specs.Starting.{records, starts_record, layers_on, starts, mode_after_wait, leaves_wait}
use Rattle.looper_rules.specs.History.{closed_if, settled, undone, redone}
use Rattle.looper_rules.specs.Verbs.{Column, InOff, InItsOwn, InAnother, Elsewhere, is_mode_of, column, unless_off, layer_row, length_row, row, acts_in, acts_waiting, acts_from, acts}
use Rattle.looper_rules.specs.LoopFrame.{wakes_as, awake_in, awake, frame_later}
use Rattle.looper_laws.specs.OtherLayers.{CountsRefusal}
use Rattle.looper_laws.specs.Undoing.{opens_as, IsOpenedFrom, for_record, for_mode}
use Rattle.looper_laws.proofs.Others.Refusals.{records_refused, starts_refused}
use Rattle.looper_laws.proofs.Others.Frames.{once_awake}
use Rattle.looper_laws.proofs.Kept.Verbs.{set_to}
use Rattle.looper_laws.proofs.Others.Loops.{quiet_settled, stepped_back_stack, redo_stack}

-- another mode than Off
on_is_not_off : (mode : Mode) → mode ≢ Off → is_off mode ≡ false
on_is_not_off Off on = absurd (on refl)
on_is_not_off _ on = refl

unless_off_on : (mode : Mode) (act : Loop Sound → Loop Sound) (l : Loop Sound) → mode ≢ Off →
    unless_off mode act l ≡ act l
unless_off_on Off act l on = absurd (on refl)
unless_off_on _ act l on = refl

-- another mode than WaitStart
acts_awake : (verb : Verb) (mode : Mode) (reach : ℕ) (l : Loop Sound) → mode ≢ WaitStart →
    acts_from verb mode reach l ≡ acts_in verb mode reach l
acts_awake verb WaitStart reach l awake = absurd (awake refl)
acts_awake verb _ reach l awake = refl

-- the column of a verb, by whether the mode is a writing one, and its own
abbrev pub column_on : Bool → Bool → Column
column_on writing own = cond writing (cond own InItsOwn InAnother) Elsewhere

column_is_on : (verb : Verb) (mode : Mode) → mode ≢ Off →
    column verb mode ≡ column_on (is_writing mode) (is_mode_of verb mode)
column_is_on verb mode on =
    ap (λ off. cond off InOff (column_on (is_writing mode) (is_mode_of verb mode)))
    (on_is_not_off mode on)

-- the row of a verb that opens, behind closing
layer_row_starts : (writing own : Bool) (mode : Mode) (reach : ℕ) (l : Loop Sound) → own ≡ false →
    (closed_if writing l).deck.mode ≢ Off →
    layer_row (column_on writing own) mode reach l ≡ starts mode reach (closed_if writing l)
layer_row_starts true true mode reach l another on = absurd (let none : ⊥ = Prim.cc in none)
layer_row_starts true false mode reach l another on =
    unless_off_on (closed l).deck.mode (starts mode reach) (closed l) on
layer_row_starts false own mode reach l another on = refl

length_row_forward : (writing own : Bool) (mode : Mode) (reach : ℕ) (l : Loop Sound) → own ≡ false →
    l.deck.backward ≡ false →
    length_row (column_on writing own) mode reach l ≡ layer_row (column_on writing own) mode reach l
length_row_forward true true mode reach l another forward = absurd (let none : ⊥ = Prim.cc in none)
length_row_forward true false mode reach l another forward =
    ap (λ back. cond back l (layer_row InAnother mode reach l)) forward
length_row_forward false own mode reach l another forward =
    ap (λ back. cond back l (layer_row Elsewhere mode reach l)) forward

-- a mode that isn't the verb's own
not_overdub : (mode : Mode) → mode ≢ Overdubbing → is_mode_of Overdub mode ≡ false
not_overdub Overdubbing another = absurd (another refl)
not_overdub _ another = refl

not_replace : (mode : Mode) → mode ≢ Replacing → is_mode_of Replace mode ≡ false
not_replace Replacing another = absurd (another refl)
not_replace _ another = refl

not_substitute : (mode : Mode) → mode ≢ Substituting → is_mode_of Substitute mode ≡ false
not_substitute Substituting another = absurd (another refl)
not_substitute _ another = refl

not_multiply : (mode : Mode) → mode ≢ Multiplying → is_mode_of Multiply mode ≡ false
not_multiply Multiplying another = absurd (another refl)
not_multiply _ another = refl

not_insert : (mode : Mode) → mode ≢ Inserting → is_mode_of Insert mode ≡ false
not_insert Inserting another = absurd (another refl)
not_insert _ another = refl

not_record : (mode : Mode) → mode ≢ Recording → is_mode_of Rec mode ≡ false
not_record Recording another = absurd (another refl)
not_record _ another = refl

-- a verb that opens in a mode that isn't its own
module _ (reach : ℕ) (l : Loop Sound) (on : l.deck.mode ≢ Off)
    (settles : (settled l).deck.mode ≢ Off) where
  layer_verb : (verb : Verb) (own : Mode) → is_mode_of verb l.deck.mode ≡ false →
      ((place : Column) → row verb place reach l ≡ layer_row place own reach l) →
      acts_in verb l.deck.mode reach l ≡ starts own reach (settled l)
  layer_verb verb own another its =
      ap (λ place. row verb place reach l) (column_is_on verb l.deck.mode on)
      ∙ (its (column_on (is_writing l.deck.mode) (is_mode_of verb l.deck.mode)) ∙ layer_row_starts
      (is_writing l.deck.mode) (is_mode_of verb l.deck.mode) own reach l another settles)

  length_verb : (verb : Verb) (own : Mode) → is_mode_of verb l.deck.mode ≡ false →
      l.deck.backward ≡ false →
      ((place : Column) → row verb place reach l ≡ length_row place own reach l) →
      acts_in verb l.deck.mode reach l ≡ starts own reach (settled l)
  length_verb verb own another forward its =
      ap (λ place. row verb place reach l) (column_is_on verb l.deck.mode on)
      ∙ (its (column_on (is_writing l.deck.mode) (is_mode_of verb l.deck.mode))
      ∙ (length_row_forward (is_writing l.deck.mode) (is_mode_of verb l.deck.mode) own reach l
      another forward
      ∙ layer_row_starts (is_writing l.deck.mode) (is_mode_of verb l.deck.mode) own reach l another
      settles))

  verb_starts : (verb : Verb) (backward : Bool) (own : Mode) → l.deck.backward ≡ backward →
      opens_as verb backward ≡ Some own → l.deck.mode ≢ own →
      acts_in verb l.deck.mode reach l ≡ starts own reach (settled l)
  verb_starts Overdub backward own way opens another = let its : Overdubbing ≡ own = Prim.cc in
      layer_verb Overdub own
      (not_overdub l.deck.mode (subst (λ mode. l.deck.mode ≢ mode) (sym its) another))
      (λ place. ap (λ mode. layer_row place mode reach l) its)
  verb_starts Replace backward own way opens another = let its : Replacing ≡ own = Prim.cc in
      layer_verb Replace own
      (not_replace l.deck.mode (subst (λ mode. l.deck.mode ≢ mode) (sym its) another))
      (λ place. ap (λ mode. layer_row place mode reach l) its)
  verb_starts Substitute backward own way opens another = let its : Substituting ≡ own = Prim.cc in
      layer_verb Substitute own
      (not_substitute l.deck.mode (subst (λ mode. l.deck.mode ≢ mode) (sym its) another))
      (λ place. ap (λ mode. layer_row place mode reach l) its)
  verb_starts Multiply false own way opens another = let its : Multiplying ≡ own = Prim.cc in
      length_verb Multiply own
      (not_multiply l.deck.mode (subst (λ mode. l.deck.mode ≢ mode) (sym its) another)) way
      (λ place. ap (λ mode. length_row place mode reach l) its)
  verb_starts Insert false own way opens another = let its : Inserting ≡ own = Prim.cc in
      length_verb Insert own
      (not_insert l.deck.mode (subst (λ mode. l.deck.mode ≢ mode) (sym its) another)) way
      (λ place. ap (λ mode. length_row place mode reach l) its)
  verb_starts _ backward own way opens another = absurd (let none : ⊥ = Prim.cc in none)

pub acts_starts : (verb : Verb) (mode : Mode) (reach : ℕ) (l : Loop Sound) →
    opens_as verb l.deck.backward ≡ Some mode → l.deck.mode ≢ mode → l.deck.mode ≢ Off →
    l.deck.mode ≢ WaitStart → (settled l).deck.mode ≢ Off →
    acts verb reach l ≡ starts mode reach (settled l)
acts_starts verb mode reach l opens another on awake settles = acts_awake verb l.deck.mode reach l
    awake ∙ verb_starts reach l on settles verb l.deck.backward mode refl opens another

-- `record`, in a mode that isn't its own
starts_record_quiet : (reach : ℕ) (l : Loop Sound) → l.controls.rec_thresh ≡ 0 →
    starts_record reach l ≡ records (opening reach true l.stack) l
starts_record_quiet reach l quiet =
    ap (λ thresh. cond (nat_lt 0 thresh) (in_mode WaitStart l)
    (records (opening reach true l.stack) l)) quiet

record_starts : (mode : Mode) (reach : ℕ) (l : Loop Sound) → mode ≢ WaitStart → mode ≢ Recording →
    acts_from Rec mode reach l ≡ starts_record reach (closed_if (is_writing mode) l)
record_starts WaitStart reach l awake another = absurd (awake refl)
record_starts Recording reach l awake another = absurd (another refl)
record_starts _ reach l awake another = refl

pub acts_records : (reach : ℕ) (l : Loop Sound) → l.deck.mode ≢ WaitStart →
    l.deck.mode ≢ Recording → acts Rec reach l ≡ starts_record reach (settled l)
acts_records reach l awake another = record_starts l.deck.mode reach l awake another

-- closing leaves the controls
closed_recording_controls : (empty single : Bool) (l : Loop Sound) →
    (closed_recording empty single l).controls ≡ l.controls
closed_recording_controls true true l = refl
closed_recording_controls true false l = refl
closed_recording_controls false single l = refl

closed_from_controls : (mode : Mode) (l : Loop Sound) → (closed_from mode l).controls ≡ l.controls
closed_from_controls Recording l =
    closed_recording_controls (length_of l == 0) (nat_le (length l.stack.layers) 1) l
closed_from_controls Multiplying l = refl
closed_from_controls _ l = refl

closed_if_controls : (writing : Bool) (l : Loop Sound) → (closed_if writing l).controls ≡ l.controls
closed_if_controls true l = closed_from_controls l.deck.mode l
closed_if_controls false l = refl

-- `record` without a threshold opens
acts_records_quiet : (reach : ℕ) (l : Loop Sound) → l.deck.mode ≢ WaitStart →
    l.deck.mode ≢ Recording → l.controls.rec_thresh ≡ 0 →
    acts Rec reach l ≡ records (opening reach true (settled l).stack) (settled l)
acts_records_quiet reach l awake another quiet =
    let still : (settled l).controls.rec_thresh ≡ 0 =
    ap (λ (controls : Controls). controls.rec_thresh)
    (closed_if_controls (is_writing l.deck.mode) l) ∙ quiet
    in acts_records reach l awake another ∙ starts_record_quiet reach (settled l) still

-- an opening that is granted
pub record_opens : (reach : ℕ) (l : Loop Sound) → l.deck.mode ≢ WaitStart →
    l.deck.mode ≢ Recording → l.controls.rec_thresh ≡ 0 →
    opening reach true (settled l).stack ≡ Ok → IsOpenedFrom (settled l) (acts Rec reach l)
record_opens reach l awake another quiet granted =
    subst (λ now. IsOpenedFrom (settled l) now)
    (sym (acts_records_quiet reach l awake another quiet
    ∙ ap (λ answer. records answer (settled l)) granted)) for_record

-- a verb that opens has a writing mode
opens_as_writing : (verb : Verb) (backward : Bool) (mode : Mode) →
    opens_as verb backward ≡ Some mode → is_writing mode ≡ true
opens_as_writing Overdub backward mode opens = let its : Overdubbing ≡ mode = Prim.cc in
    ap is_writing (sym its)
opens_as_writing Replace backward mode opens = let its : Replacing ≡ mode = Prim.cc in
    ap is_writing (sym its)
opens_as_writing Substitute backward mode opens = let its : Substituting ≡ mode = Prim.cc in
    ap is_writing (sym its)
opens_as_writing Multiply false mode opens = let its : Multiplying ≡ mode = Prim.cc in
    ap is_writing (sym its)
opens_as_writing Insert false mode opens = let its : Inserting ≡ mode = Prim.cc in
    ap is_writing (sym its)
opens_as_writing _ backward mode opens = absurd (let none : ⊥ = Prim.cc in none)

pub verb_opens : (verb : Verb) (mode : Mode) (reach : ℕ) (l : Loop Sound) →
    opens_as verb l.deck.backward ≡ Some mode → l.deck.mode ≢ mode → l.deck.mode ≢ Off →
    l.deck.mode ≢ WaitStart → (settled l).deck.mode ≢ Off →
    opening reach false (settled l).stack ≡ Ok → IsOpenedFrom (settled l) (acts verb reach l)
verb_opens verb mode reach l opens another on awake settles granted =
    subst (λ now. IsOpenedFrom (settled l) now)
    (sym (acts_starts verb mode reach l opens another on awake settles
    ∙ ap (λ answer. layers_on answer mode (settled l)) granted))
    (for_mode mode (opens_as_writing verb l.deck.backward mode opens))

-- a loop that a loud frame opens
pub awake_opens : (x : Sound) (reach : ℕ) (l : Loop Sound) → l.deck.mode ≡ WaitStart →
    l.controls.rec_thresh ≤ loudness x → opening reach true l.stack ≡ Ok →
    awake x reach l ≡ records Ok l
awake_opens x reach l waits loud granted =
    ap (λ mode. awake_in mode (nat_le l.controls.rec_thresh (loudness x)) reach l) waits
    ∙ (ap (λ is. awake_in WaitStart is reach l) (le-leb l.controls.rec_thresh (loudness x) loud)
    ∙ ap (λ answer. wakes_as answer l) granted)

pub loud_frame_opens : (x : Sound) (reach : ℕ) (l : Loop Sound) → l.deck.mode ≡ WaitStart →
    l.controls.rec_thresh ≤ loudness x → opening reach true l.stack ≡ Ok →
    IsOpenedFrom l (awake x reach l)
loud_frame_opens x reach l waits loud granted =
    subst (λ now. IsOpenedFrom l now) (sym (awake_opens x reach l waits loud granted)) for_record

-- has its frame as any loop that is open
pub loud_frame_goes_on : (x : Sound) (reach : ℕ) (l : Loop Sound) → l.deck.mode ≡ WaitStart →
    l.controls.rec_thresh ≤ loudness x → opening reach true l.stack ≡ Ok →
    frame_later x reach l ≡ frame_later x reach (awake x reach l)
loud_frame_goes_on x reach l waits loud granted =
    let opens = awake_opens x reach l waits loud granted
    in ap (once_awake x reach) opens ∙ sym (ap (frame_later x reach) opens)

-- an opening that is refused
pub record_refused : (reach : ℕ) (l : Loop Sound) → l.deck.mode ≢ WaitStart →
    l.deck.mode ≢ Recording → l.controls.rec_thresh ≡ 0 →
    opening reach true (settled l).stack ≢ Ok → CountsRefusal (settled l) (acts Rec reach l)
record_refused reach l awake another quiet refused =
    subst (λ now. CountsRefusal (settled l) now)
    (sym (acts_records_quiet reach l awake another quiet))
    (records_refused (opening reach true (settled l).stack) (settled l) refused)

pub verb_refused : (verb : Verb) (mode : Mode) (reach : ℕ) (l : Loop Sound) →
    opens_as verb l.deck.backward ≡ Some mode → l.deck.mode ≢ mode → l.deck.mode ≢ Off →
    l.deck.mode ≢ WaitStart → (settled l).deck.mode ≢ Off →
    opening reach false (settled l).stack ≢ Ok → CountsRefusal (settled l) (acts verb reach l)
verb_refused verb mode reach l opens another on awake settles refused =
    subst (λ now. CountsRefusal (settled l) now)
    (sym (acts_starts verb mode reach l opens another on awake settles))
    (starts_refused reach mode (settled l) refused)

-- undo and redo as verbs
pub left_wait_quiet : (layers : List (Layer Sound)) → is_writing (mode_after_wait layers) ≡ false
left_wait_quiet [] = refl
left_wait_quiet (_ ∷ _) = refl

undo_from_stack : (mode : Mode) (reach : ℕ) (l : Loop Sound) →
    (acts_from Undo mode reach (set_to mode l)).stack ≡ undone (settled (set_to mode l)).stack
undo_from_stack WaitStart reach l = stepped_back_stack (settled (leaves_wait l))
    ∙ ap (λ (now : Loop Sound). undone now.stack)
    (quiet_settled (leaves_wait l) (left_wait_quiet l.stack.layers))
undo_from_stack mode reach l = stepped_back_stack (settled (set_to mode l))

pub acts_undo_stack : (reach : ℕ) (l : Loop Sound) →
    (acts Undo reach l).stack ≡ undone (settled l).stack
acts_undo_stack reach l = undo_from_stack l.deck.mode reach l

redo_from_mode_stack : (mode : Mode) (reach : ℕ) (l : Loop Sound) →
    (acts_from Redo mode reach l).stack ≡ redone l.stack
redo_from_mode_stack WaitStart reach l = redo_stack (leaves_wait l)
redo_from_mode_stack _ reach l = redo_stack l

pub acts_redo_stack : (reach : ℕ) (l : Loop Sound) → (acts Redo reach l).stack ≡ redone l.stack
acts_redo_stack reach l = redo_from_mode_stack l.deck.mode reach l

-- in WaitStart every verb but `record` leaves it first, and then acts
after_wait : (verb : Verb) (layers : List (Layer Sound)) (reach : ℕ) (now : Loop Sound) →
    acts_in verb (mode_after_wait layers) reach now ≡ acts_from verb (mode_after_wait layers) reach
    now
after_wait verb [] reach now = refl
after_wait verb (_ ∷ _) reach now = refl

waiting_is : (verb : Verb) (reach : ℕ) (l : Loop Sound) → verb ≢ Rec →
    acts_waiting verb reach l ≡ acts_in verb (mode_after_wait l.stack.layers) reach (leaves_wait l)
waiting_is Rec reach l other = absurd (other refl)
waiting_is _ reach l other = refl

pub acts_in_wait : (verb : Verb) (reach : ℕ) (l : Loop Sound) → l.deck.mode ≡ WaitStart →
    verb ≢ Rec →
    acts verb reach l ≡ acts verb reach (leaves_wait l)
acts_in_wait verb reach l waits other =
    ap (λ mode. acts_from verb mode reach l) waits
    ∙ waiting_is verb reach l other
    ∙ after_wait verb l.stack.layers reach (leaves_wait l)

pub record_in_wait : (reach : ℕ) (l : Loop Sound) → l.deck.mode ≡ WaitStart →
    acts Rec reach l ≡ leaves_wait l
record_in_wait reach l waits = ap (λ mode. acts_from Rec mode reach l) waits

-- there a verb that opens is another one, and closing does nothing
opens_not_record : (verb : Verb) (backward : Bool) (mode : Mode) →
    opens_as verb backward ≡ Some mode → verb ≢ Rec
opens_not_record Rec backward mode opens = absurd (let none : ⊥ = Prim.cc in none)
opens_not_record Overdub backward mode opens = λ same. Prim.cc
opens_not_record Multiply backward mode opens = λ same. Prim.cc
opens_not_record Insert backward mode opens = λ same. Prim.cc
opens_not_record Replace backward mode opens = λ same. Prim.cc
opens_not_record Substitute backward mode opens = λ same. Prim.cc
opens_not_record _ backward mode opens = absurd (let none : ⊥ = Prim.cc in none)

plays_after_wait : (layers : List (Layer Sound)) → 1 ≤ length layers →
    mode_after_wait layers ≡ Playing
plays_after_wait [] some = absurd (let none : ⊥ = omega arith in none)
plays_after_wait (_ ∷ _) some = refl

not_off_after_wait : (layers : List (Layer Sound)) → 1 ≤ length layers →
    mode_after_wait layers ≢ Off
not_off_after_wait layers some = λ off. (let plays = plays_after_wait layers some in Prim.cc)

not_writing_after_wait : (layers : List (Layer Sound)) (mode : Mode) → is_writing mode ≡ true →
    mode_after_wait layers ≢ mode
not_writing_after_wait layers mode writing =
    λ same. (let quiet : is_writing mode ≡ false =
    subst (λ m. is_writing m ≡ false) same (left_wait_quiet layers) in Prim.cc)

not_waiting_after_wait : (layers : List (Layer Sound)) → 1 ≤ length layers →
    mode_after_wait layers ≢ WaitStart
not_waiting_after_wait layers some = λ waits. (let plays = plays_after_wait layers some in Prim.cc)

module _ (verb : Verb) (mode : Mode) (reach : ℕ) (l : Loop Sound)
    (opens : opens_as verb l.deck.backward ≡ Some mode) (waits : l.deck.mode ≡ WaitStart)
    (some : 1 ≤ length l.stack.layers) where
  starts_from_wait : acts verb reach l ≡ starts mode reach (leaves_wait l)
  starts_from_wait =
      let same : settled (leaves_wait l) ≡ leaves_wait l =
      quiet_settled (leaves_wait l) (left_wait_quiet l.stack.layers) in
      acts_in_wait verb reach l waits (opens_not_record verb l.deck.backward mode opens)
      ∙ acts_starts verb mode reach (leaves_wait l) opens
      (not_writing_after_wait l.stack.layers mode
      (opens_as_writing verb l.deck.backward mode opens))
      (not_off_after_wait l.stack.layers some)
      (not_waiting_after_wait l.stack.layers some)
      (subst (λ (s : Loop Sound). s.deck.mode ≢ Off) (sym same)
      (not_off_after_wait l.stack.layers some))
      ∙ ap (starts mode reach) same

  pub wait_opens : opening reach false l.stack ≡ Ok →
      IsOpenedFrom (leaves_wait l) (acts verb reach l)
  wait_opens granted =
      subst (λ after. IsOpenedFrom (leaves_wait l) after)
      (sym (starts_from_wait ∙ ap (λ answer. layers_on answer mode (leaves_wait l)) granted))
      (for_mode mode (opens_as_writing verb l.deck.backward mode opens))

  pub wait_refused : opening reach false l.stack ≢ Ok →
      CountsRefusal (leaves_wait l) (acts verb reach l)
  wait_refused refused = subst (λ after. CountsRefusal (leaves_wait l) after) (sym starts_from_wait)
      (starts_refused reach mode (leaves_wait l) refused)
