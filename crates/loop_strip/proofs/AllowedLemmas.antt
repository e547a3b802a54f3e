-- Each move of a verb meets a loop that is in a state for it.
use Rattle.std.proofs.Common.{◌≡◌, ℕ, Bool, true, false, ◌&&◌, List, [], ◌∷◌, length, Option, None, refl, sym, ap, subst, ◌∙◌, nat_le, cond}
use Rattle.std.specs.Prelude.{◌==◌}
use Rattle.sl_commands.specs.declared.Verb.{Verb}
use Rattle.sl_commands.specs.declared.Verb.TheVariants.{Rec, Overdub, Multiply, Insert, Replace, Substitute, Mute, MuteOn, MuteOff, OneShot, Trigger, Reverse, Pause, Undo as UndoVerb, Redo as RedoVerb, UndoAll as UndoAllVerb, RedoAll as RedoAllVerb}
use Rattle.sl_commands.specs.declared.Mode.{Mode}
use Rattle.sl_commands.specs.declared.Mode.TheVariants.{Off, WaitStart, Recording, Playing, Overdubbing, Multiplying, Inserting, Replacing, Muted, OneShot as PlayingOnce, Substituting, Paused}
use Rattle.sl_commands.specs.declared.Face.{Face}
use Rattle.looper_rules.specs.Layers.{Layer}
use Rattle.looper_rules.specs.Stack.{LastWrite}
use Rattle.looper_rules.specs.Loop.{Loop, face_of, length_of, is_writing, in_mode}
use Rattle.looper_rules.specs.Closing.{closed, closed_from, closed_recording}
use Rattle.looper_rules.specs.Starting.{mode_after_wait}
use Rattle.looper_rules.specs.Verbs.{Column, InOff, InItsOwn, InAnother, Elsewhere, column, is_mode_of, mute_toggled, unmuted, pause_toggled}
use Rattle.looper_laws.proofs.Kept.Closing.{closed_leads, IsClosedMode}
use Rattle.looper_laws.proofs.Kept.History.{closed_is_quiet}
use Rattle.loop_states.specs.declared.act.Move.{Move}
use Rattle.loop_states.specs.declared.act.Move.TheVariants.{Close, Begin, Round, SetMode, ToStart, Turn}
use Rattle.loop_states.specs.Deciding.{leads_to_off, close_then, record_moves, layer_moves, length_moves, mode_moves, mute_off_moves, start_moves, reverse_in, reverse_moves, moves_at, moves_in, mode_behind_wait, waiting_moves, moves_from, moves_of}
use Rattle.loop_strip.specs.Moving.{IsAtRest, MayStart, MayTurn}
use Rattle.loop_strip.proofs.Allowed.{AreAllowed}

-- what a column says of the mode
abbrev pub Stands : Column → Mode → Type 0
Stands InOff mode = mode ≡ Off
Stands InItsOwn mode = is_writing mode ≡ true
Stands InAnother mode = is_writing mode ≡ true
Stands Elsewhere mode = IsAtRest mode

own_or : (own : Bool) (mode : Mode) → is_writing mode ≡ true →
    Stands (cond own InItsOwn InAnother) mode
own_or true mode writing = writing
own_or false mode writing = writing

stands : (verb : Verb) (mode : Mode) → (mode ≡ WaitStart → ⊥) → Stands (column verb mode) mode
stands verb Off awake = refl
stands verb WaitStart awake = absurd (awake refl)
stands verb Recording awake = own_or (is_mode_of verb Recording) Recording refl
stands verb Overdubbing awake = own_or (is_mode_of verb Overdubbing) Overdubbing refl
stands verb Multiplying awake = own_or (is_mode_of verb Multiplying) Multiplying refl
stands verb Inserting awake = own_or (is_mode_of verb Inserting) Inserting refl
stands verb Replacing awake = own_or (is_mode_of verb Replacing) Replacing refl
stands verb Substituting awake = own_or (is_mode_of verb Substituting) Substituting refl
stands verb Playing awake = tt
stands verb Muted awake = tt
stands verb PlayingOnce awake = tt
stands verb Paused awake = tt

-- at rest nothing waits and nothing is written
rest_starts : (mode : Mode) → IsAtRest mode → (is_writing mode ≡ false) × (mode ≡ WaitStart → ⊥)
rest_starts Playing rest = (refl, λ e. cc)
rest_starts Muted rest = (refl, λ e. cc)
rest_starts PlayingOnce rest = (refl, λ e. cc)
rest_starts Paused rest = (refl, λ e. cc)
rest_starts _ rest = absurd rest

off_starts : (mode : Mode) → mode ≡ Off → (is_writing mode ≡ false) × (mode ≡ WaitStart → ⊥)
off_starts mode is = (ap is_writing is, λ e. let two : Off ≡ WaitStart = sym is ∙ e in cc)

rest_turns : (mode : Mode) (streak : Option LastWrite) → IsAtRest mode → MayTurn mode streak
rest_turns Playing streak rest = tt
rest_turns Muted streak rest = tt
rest_turns PlayingOnce streak rest = tt
rest_turns Paused streak rest = tt
rest_turns _ streak rest = absurd rest

unmuted_rests : (mode : Mode) → IsAtRest mode → IsAtRest (unmuted mode)
unmuted_rests Playing rest = tt
unmuted_rests Muted rest = tt
unmuted_rests PlayingOnce rest = tt
unmuted_rests Paused rest = tt
unmuted_rests _ rest = absurd rest

mute_rests : (mode : Mode) → IsAtRest (mute_toggled mode)
mute_rests Muted = tt
mute_rests _ = tt

pause_rests : (mode : Mode) → IsAtRest (pause_toggled mode)
pause_rests Paused = tt
pause_rests _ = tt

off_alike : (verb : Verb) (round : Bool) (mode : Mode) (face : Face) →
    moves_in verb Off round face ≡ moves_in verb Off round (record face { mode = mode })
off_alike Rec round mode face = refl
off_alike _ round mode face = refl

playing_alike : (verb : Verb) (round : Bool) (mode : Mode) (face : Face) →
    moves_in verb Playing round face ≡ moves_in verb Playing round (record face { mode = mode })
playing_alike Rec round mode face = refl
playing_alike _ round mode face = refl

module _ {A : Type 0} (reach : ℕ) where
  -- closing leads to Playing, or to Off where a Recording has length 0 and is the only layer
  recording_plays : (empty single : Bool) (l : Loop A) → (empty && single) ≡ false →
      (closed_recording empty single l).deck.mode ≡ Playing
  recording_plays true true l on = let no : ⊥ = cc in absurd no
  recording_plays true false l on = refl
  recording_plays false single l on = refl

  plays : (mode : Mode) (l : Loop A) → leads_to_off mode (face_of l) ≡ false →
      (closed_from mode l).deck.mode ≡ Playing
  plays Recording l on = recording_plays (length_of l == 0) (nat_le (length l.stack.layers) 1) l on
  plays _ l on = refl

  closed_starts : (l : Loop A) → (is_writing (closed l).deck.mode ≡ false)
      × ((closed l).deck.mode ≡ WaitStart → ⊥)
  closed_starts l = (
    closed_is_quiet (closed l).deck.mode (closed_leads l),
    not_waiting (closed l).deck.mode (closed_leads l),
  )
    where
      not_waiting : (mode : Mode) → IsClosedMode mode → mode ≡ WaitStart → ⊥
      not_waiting Off leads e = cc
      not_waiting Playing leads e = cc
      not_waiting _ leads e = absurd leads

  recording_backward : (empty single : Bool) (l : Loop A) →
      (closed_recording empty single l).deck.backward ≡ l.deck.backward
  recording_backward true true l = refl
  recording_backward true false l = refl
  recording_backward false single l = refl

  closed_backward : (mode : Mode) (l : Loop A) →
      (closed_from mode l).deck.backward ≡ l.deck.backward
  closed_backward Recording l =
      recording_backward (length_of l == 0) (nat_le (length l.stack.layers) 1) l
  closed_backward Multiplying l = refl
  closed_backward _ l = refl

  close_as : (off : Bool) (moves : List Move) (l : Loop A) → is_writing l.deck.mode ≡ true →
      (off ≡ false → AreAllowed reach moves (closed l)) →
      AreAllowed reach (cond off (Close ∷ []) (Close ∷ moves)) l
  close_as true moves l writing next = (writing, tt)
  close_as false moves l writing next = (writing, next refl)

  closes : (mode : Mode) (moves : List Move) (l : Loop A) → l.deck.mode ≡ mode →
      is_writing mode ≡ true →
      ((closed l).deck.mode ≡ Playing → AreAllowed reach moves (closed l)) →
      AreAllowed reach (close_then mode (face_of l) moves) l
  closes mode moves l is writing next =
      close_as (leads_to_off mode (face_of l)) moves l (ap is_writing is ∙ writing)
      (λ on. next (plays l.deck.mode l (ap (λ m. leads_to_off m (face_of l)) is ∙ on)))

  record_allowed : (place : Column) (l : Loop A) → Stands place l.deck.mode →
      AreAllowed reach (record_moves place) l
  record_allowed InOff l st = (off_starts l.deck.mode st, tt)
  record_allowed InItsOwn l st = (st, tt)
  record_allowed InAnother l st = (st, (closed_starts l, tt))
  record_allowed Elsewhere l st = (rest_starts l.deck.mode st, tt)

  layer_allowed : (place : Column) (verb : Verb) (l : Loop A) → Stands place l.deck.mode →
      ((k : Loop A) → IsAtRest k.deck.mode → k.deck.backward ≡ l.deck.backward →
      MayStart verb k.deck.mode k.deck.backward) →
      AreAllowed reach (layer_moves place verb l.deck.mode (face_of l)) l
  layer_allowed InOff verb l st start = tt
  layer_allowed InItsOwn verb l st start = (st, tt)
  layer_allowed InAnother verb l st start =
      closes l.deck.mode (Begin verb ∷ []) l refl st
      (λ p. (start (closed l) (subst IsAtRest (sym p) tt) (closed_backward l.deck.mode l), tt))
  layer_allowed Elsewhere verb l st start = (start l st refl, tt)

  end_allowed : (now : Bool) (l : Loop A) → is_writing l.deck.mode ≡ true →
      AreAllowed reach (cond now (Close ∷ []) (Round ∷ [])) l
  end_allowed true l writing = (writing, tt)
  end_allowed false l writing = (writing, tt)

  facing : (backward : Bool) (moves : List Move) (l : Loop A) →
      (backward ≡ false → AreAllowed reach moves l) → AreAllowed reach (cond backward [] moves) l
  facing true moves l next = tt
  facing false moves l next = next refl

  length_allowed : (place : Column) (verb : Verb) (round : Bool) (l : Loop A) →
      Stands place l.deck.mode →
      ((k : Loop A) → IsAtRest k.deck.mode → k.deck.backward ≡ false →
      MayStart verb k.deck.mode k.deck.backward) →
      AreAllowed reach (length_moves place verb l.deck.mode round (face_of l)) l
  length_allowed InOff verb round l st start = tt
  length_allowed InItsOwn verb round l st start = end_allowed _ l st
  length_allowed InAnother verb round l st start =
      facing l.deck.backward (close_then l.deck.mode (face_of l) (Begin verb ∷ [])) l
      (λ forward. layer_allowed InAnother verb l st (λ k rest same. start k rest (same ∙ forward)))
  length_allowed Elsewhere verb round l st start =
      facing l.deck.backward (Begin verb ∷ []) l (λ forward. (start l st forward, tt))

  mode_allowed : (place : Column) (there next : Mode) (l : Loop A) → Stands place l.deck.mode →
      (IsAtRest l.deck.mode → IsAtRest there) → IsAtRest next →
      AreAllowed reach (mode_moves place there next l.deck.mode (face_of l)) l
  mode_allowed InOff there next l st to rest = tt
  mode_allowed Elsewhere there next l st to rest = ((to st, st), tt)
  mode_allowed InItsOwn there next l st to rest = closes l.deck.mode (SetMode next ∷ []) l refl st
      (λ p. ((rest, subst IsAtRest (sym p) tt), tt))
  mode_allowed InAnother there next l st to rest = closes l.deck.mode (SetMode next ∷ []) l refl st
      (λ p. ((rest, subst IsAtRest (sym p) tt), tt))

  mute_off_allowed : (place : Column) (l : Loop A) → Stands place l.deck.mode →
      AreAllowed reach (mute_off_moves place l.deck.mode) l
  mute_off_allowed Elsewhere l st = ((unmuted_rests l.deck.mode st, st), tt)
  mute_off_allowed _ l st = tt

  start_allowed : (place : Column) (next : Mode) (l : Loop A) → Stands place l.deck.mode →
      IsAtRest next → AreAllowed reach (start_moves place next l.deck.mode (face_of l)) l
  start_allowed InOff next l st rest = tt
  start_allowed Elsewhere next l st rest = (st, ((rest, st), tt))
  start_allowed InItsOwn next l st rest =
      closes l.deck.mode (ToStart ∷ SetMode next ∷ []) l refl st
      (λ p. let now : IsAtRest (closed l).deck.mode = subst IsAtRest (sym p) tt in
      (now, ((rest, now), tt)))
  start_allowed InAnother next l st rest =
      closes l.deck.mode (ToStart ∷ SetMode next ∷ []) l refl st
      (λ p. let now : IsAtRest (closed l).deck.mode = subst IsAtRest (sym p) tt in
      (now, ((rest, now), tt)))

  reverse_in_allowed : (mode : Mode) (l : Loop A) → l.deck.mode ≡ mode → is_writing mode ≡ true →
      AreAllowed reach (reverse_in mode (face_of l)) l
  reverse_in_allowed Recording l is writing = closes Recording (Turn ∷ []) l is refl
      (λ p. (subst (λ m. MayTurn m (closed l).stack.streak) (sym p) tt, tt))
  reverse_in_allowed Multiplying l is writing = closes Multiplying (Turn ∷ []) l is refl
      (λ p. (subst (λ m. MayTurn m (closed l).stack.streak) (sym p) tt, tt))
  reverse_in_allowed Inserting l is writing = closes Inserting (Turn ∷ []) l is refl
      (λ p. (subst (λ m. MayTurn m (closed l).stack.streak) (sym p) tt, tt))
  reverse_in_allowed Overdubbing l is writing =
      (ap is_writing is, (subst (λ m. MayTurn m None) (sym is) refl, tt))
  reverse_in_allowed Replacing l is writing =
      (ap is_writing is, (subst (λ m. MayTurn m None) (sym is) refl, tt))
  reverse_in_allowed Substituting l is writing =
      (ap is_writing is, (subst (λ m. MayTurn m None) (sym is) refl, tt))
  reverse_in_allowed _ l is writing = let no : ⊥ = cc in absurd no

  reverse_allowed : (place : Column) (l : Loop A) → Stands place l.deck.mode →
      AreAllowed reach (reverse_moves place l.deck.mode (face_of l)) l
  reverse_allowed InOff l st = tt
  reverse_allowed Elsewhere l st = (rest_turns l.deck.mode l.stack.streak st, tt)
  reverse_allowed InItsOwn l st = reverse_in_allowed l.deck.mode l refl st
  reverse_allowed InAnother l st = reverse_in_allowed l.deck.mode l refl st

  row_allowed : (verb : Verb) (place : Column) (round : Bool) (l : Loop A) →
      Stands place l.deck.mode →
      AreAllowed reach (moves_at verb place l.deck.mode round (face_of l)) l
  row_allowed Rec place round l st = record_allowed place l st
  row_allowed Overdub place round l st =
      layer_allowed place Overdub l st (λ k rest same. (rest, tt))
  row_allowed Multiply place round l st =
      length_allowed place Multiply round l st (λ k rest forward. (rest, forward))
  row_allowed Insert place round l st =
      length_allowed place Insert round l st (λ k rest forward. (rest, forward))
  row_allowed Replace place round l st =
      layer_allowed place Replace l st (λ k rest same. (rest, tt))
  row_allowed Substitute place round l st =
      layer_allowed place Substitute l st (λ k rest same. (rest, tt))
  row_allowed Mute place round l st =
      mode_allowed place (mute_toggled l.deck.mode) Muted l st (λ rest. mute_rests l.deck.mode) tt
  row_allowed MuteOn place round l st = mode_allowed place Muted Muted l st (λ rest. tt) tt
  row_allowed MuteOff place round l st = mute_off_allowed place l st
  row_allowed OneShot place round l st = start_allowed place PlayingOnce l st tt
  row_allowed Trigger place round l st = start_allowed place Playing l st tt
  row_allowed Reverse place round l st = reverse_allowed place l st
  row_allowed Pause place round l st = mode_allowed place (pause_toggled l.deck.mode) Paused l st
      (λ rest. pause_rests l.deck.mode) tt
  row_allowed UndoVerb place round l st = (tt, tt)
  row_allowed RedoVerb place round l st = (tt, tt)
  row_allowed UndoAllVerb place round l st = (tt, tt)
  row_allowed RedoAllVerb place round l st = (tt, tt)

  in_allowed : (verb : Verb) (mode : Mode) (round : Bool) (l : Loop A) → l.deck.mode ≡ mode →
      (mode ≡ WaitStart → ⊥) → AreAllowed reach (moves_in verb mode round (face_of l)) l
  in_allowed verb mode round l is awake =
      subst (λ m. AreAllowed reach (moves_in verb m round (face_of l)) l) is
      (row_allowed verb (column verb l.deck.mode) round l
      (stands verb l.deck.mode (λ e. awake (sym is ∙ e))))

  waiting_over : (layers : List (Layer A)) (verb : Verb) (round : Bool) (l : Loop A) →
      AreAllowed reach (moves_in verb (mode_behind_wait (length layers)) round (face_of l))
      (in_mode (mode_after_wait layers) l)
  waiting_over [] verb round l =
      subst (λ ms. AreAllowed reach ms (in_mode Off l)) (sym (off_alike verb round Off (face_of l)))
      (in_allowed verb Off round (in_mode Off l) refl (λ e. cc))
  waiting_over (x ∷ xs) verb round l =
      subst (λ ms. AreAllowed reach ms (in_mode Playing l))
      (sym (playing_alike verb round Playing (face_of l)))
      (in_allowed verb Playing round (in_mode Playing l) refl (λ e. cc))

  waiting_allowed : (verb : Verb) (round : Bool) (l : Loop A) → l.deck.mode ≡ WaitStart →
      AreAllowed reach (waiting_moves verb round (face_of l)) l
  waiting_allowed Rec round l is = (is, tt)
  waiting_allowed verb round l is = (is, waiting_over l.stack.layers verb round l)

  from_allowed : (verb : Verb) (mode : Mode) (round : Bool) (l : Loop A) → l.deck.mode ≡ mode →
      AreAllowed reach (moves_from verb mode round (face_of l)) l
  from_allowed verb WaitStart round l is = waiting_allowed verb round l is
  from_allowed verb mode round l is = in_allowed verb mode round l is (λ e. cc)

  pub moves_allowed : (verb : Verb) (round : Bool) (l : Loop A) →
      AreAllowed reach (moves_of verb round (face_of l)) l
  moves_allowed verb round l = from_allowed verb l.deck.mode round l refl
