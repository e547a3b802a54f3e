-- Loops that stay in their mode whatever comes in.
use Rattle.std.proofs.Common.{◌≡◌, ℕ, zero, suc, ◌+◌, ◌≤◌, ◌<◌, Bool, true, false, List, [], ◌∷◌, ◌++◌, length, take, get_or, refl, sym, ap, subst, ◌∙◌, arith, nat_le}
use Rattle.std.specs.Prelude.{⊤, ◌==◌}
use Rattle.sl_base.specs.Sounds.{Sound, loudness}
use Rattle.sl_commands.specs.declared.Mode.{Mode}
use Rattle.sl_commands.specs.declared.Mode.TheVariants.{Off, WaitStart, Playing, Muted, Paused}
use Rattle.looper_rules.specs.Room.{chunks_of}
use Rattle.looper_rules.specs.Loop.{Loop, Deck, Controls, is_writing, length_of, face_of}
use Rattle.looper_rules.specs.LoopFrame.{awake_in, ready_in, ready, wraps, goes_on, advanced_in, passes, after, frame_later}
use Rattle.looper_rules.specs.FacesLater.{face_goes_on, face_later_in}
use Rattle.looper_rules.specs.LoopSpans.{IsQuietFrame, AreQuiet, AreQuietBehind}
use Rattle.looper_laws.proofs.Kept.Verbs.{set_to}
use Rattle.loop_strip.specs.Strips.{StripOf, seen}
use Rattle.loop_strip.specs.declared.parts.Parts.{Parts}
use Rattle.loop_strip.specs.Parts.{strip_of}
use Rattle.loop_strip.specs.Quiet.{IsQuietFor, IsQuietOver, AreSoft}
use Rattle.loop_strip.proofs.DidLemmas.{seen_deck, seen_controls}

-- the modes that no frame changes, and in which nothing is written
abbrev pub IsStill : Mode → Type 0
IsStill Off = ⊤
IsStill Playing = ⊤
IsStill Muted = ⊤
IsStill Paused = ⊤
IsStill _ = ⊥

-- going on takes no chunk
pub on_tape : (round : Bool) (l : Loop Sound) →
    chunks_of (goes_on round l).stack.tape ≡ chunks_of l.stack.tape
on_tape true l = refl
on_tape false l = refl

-- the face goes on
pub on_face : (round : Bool) (l : Loop Sound) →
    face_of (goes_on round l) ≡ face_goes_on round (face_of l)
on_face true l = refl
on_face false l = refl

playing_mode : (round : Bool) (l : Loop Sound) →
    (goes_on round (set_to Playing l)).deck.mode ≡ Playing
playing_mode true l = refl
playing_mode false l = refl

muted_mode : (round : Bool) (l : Loop Sound) → (goes_on round (set_to Muted l)).deck.mode ≡ Muted
muted_mode true l = refl
muted_mode false l = refl

still_frame : (mode : Mode) (x : Sound) (l : Loop Sound) → IsStill mode →
    IsQuietFrame x (set_to mode l)
still_frame Off x l still = record {
  ready_is = λ reach. refl;
  after_is = λ reach. refl;
  chunks =
      refl;
  mode = refl;
  face = refl;
}
still_frame Paused x l still = record {
  ready_is = λ reach. refl;
  after_is = λ reach. refl;
  chunks =
      refl;
  mode = refl;
  face = refl;
}
still_frame Playing x l still =
    let round = wraps l.deck.backward l.deck.pos (length_of l)
    in record {
      ready_is = λ reach. refl;
      after_is = λ reach. refl;
      chunks =
          on_tape round (set_to Playing l);
      mode = playing_mode round l;
      face =
          on_face round (set_to Playing l);
    }
still_frame Muted x l still =
    let round = wraps l.deck.backward l.deck.pos (length_of l)
    in record {
      ready_is = λ reach. refl;
      after_is = λ reach. refl;
      chunks =
          on_tape round (set_to Muted l);
      mode = muted_mode round l;
      face =
          on_face round (set_to Muted l);
    }
still_frame _ x l still = absurd still

still_mode : (mode : Mode) (x : Sound) (reach : ℕ) (l : Loop Sound) → IsStill mode →
    (frame_later x reach (set_to mode l)).deck.mode ≡ mode
still_mode Off x reach l still = refl
still_mode Paused x reach l still = refl
still_mode Playing x reach l still = playing_mode (wraps l.deck.backward l.deck.pos (length_of l)) l
still_mode Muted x reach l still = muted_mode (wraps l.deck.backward l.deck.pos (length_of l)) l
still_mode _ x reach l still = absurd still

still_later : (x : Sound) (reach : ℕ) (l : Loop Sound) → IsStill l.deck.mode →
    IsStill (frame_later x reach l).deck.mode
still_later x reach l still = subst IsStill (sym (still_mode l.deck.mode x reach l still)) still

still_quiet : (xs : List Sound) (l : Loop Sound) → IsStill l.deck.mode → AreQuiet xs l
still_quiet [] l still = tt
still_quiet (x ∷ xs) l still = (
  still_frame l.deck.mode x l still,
  still_quiet xs (frame_later x 0 l) (still_later x 0 l still),
)

-- a strip in such a mode is quiet however long
pub quiet_still : (n : ℕ) (mode : Mode) (s : Parts) → s.deck.mode ≡ mode → IsStill mode →
    IsQuietFor n (strip_of s)
quiet_still n mode s is still = λ p x xs reach less.
    let here : IsStill (seen (strip_of s) p).deck.mode =
    subst IsStill (sym (ap (λ (d : Deck). d.mode) (seen_deck (strip_of s) p) ∙ is)) still
    in still_quiet xs (frame_later x reach (seen (strip_of s) p))
    (still_later x reach (seen (strip_of s) p) here)

-- and every strip for one frame
pub quiet_once : (s : StripOf) → IsQuietFor 1 s
quiet_once s = λ p x xs reach less. quiet_none xs (frame_later x reach (seen s p)) less
  where
    quiet_none : (xs : List Sound) (l : Loop Sound) → length xs < 1 → AreQuiet xs l
    quiet_none [] l less = tt
    quiet_none (y ∷ ys) l less = absurd (omega arith)

pub ruleset quieting = (quiet_still, quiet_once)

-- a loop that waits for its threshold stays as it is at a soft frame
module _ (l : Loop Sound) (is : l.deck.mode ≡ WaitStart) (x : Sound)
    (soft : nat_le l.controls.rec_thresh (loudness x) ≡ false) where
  pub soft_ready : (reach : ℕ) → ready x reach l ≡ l
  soft_ready reach =
      ap (λ (k : Loop Sound). ready_in k.deck.mode (k.deck.pos == length_of k) k)
      (ap (λ m. awake_in m (nat_le l.controls.rec_thresh (loudness x)) reach l) is
      ∙ ap (λ b. awake_in WaitStart b reach l) soft)
      ∙ ap (λ m. ready_in m (l.deck.pos == length_of l) l) is

  soft_after : (reach : ℕ) → after x reach l ≡ l
  soft_after reach = ap (λ m. passes (is_writing m) x reach l) is ∙ ap (λ m. advanced_in m l) is

  pub soft_later : (reach : ℕ) → frame_later x reach l ≡ l
  soft_later reach = ap (after x reach) (soft_ready reach) ∙ soft_after reach

  soft_frame : IsQuietFrame x l
  soft_frame = record {
    ready_is = λ reach. soft_ready reach ∙ sym (soft_ready 0);
    after_is = λ reach. ap (after x reach) (soft_ready 0) ∙ soft_after reach ∙ sym (soft_after 0)
        ∙ sym (ap (after x 0) (soft_ready 0));
    chunks = ap (λ (k : Loop Sound). chunks_of k.stack.tape) (soft_later 0);
    mode = ap (λ (k : Loop Sound). k.deck.mode) (soft_later 0);
    face = ap face_of (soft_later 0) ∙ sym (ap (λ m. face_later_in m (face_of l)) is);
  }

soft_quiet : (xs : List Sound) (l : Loop Sound) → l.deck.mode ≡ WaitStart →
    AreSoft l.controls.rec_thresh xs → AreQuiet xs l
soft_quiet [] l is soft = tt
soft_quiet (x ∷ xs) l is soft = (
  soft_frame l is x soft.0,
  subst (λ (k : Loop Sound). AreQuiet xs k)
      (sym (soft_later l is x soft.0 0)) (soft_quiet xs l is soft.1),
)

soft_behind : (xs : List Sound) (reach : ℕ) (l : Loop Sound) → l.deck.mode ≡ WaitStart →
    AreSoft l.controls.rec_thresh xs → AreQuietBehind xs reach l
soft_behind [] reach l is soft = tt
soft_behind (x ∷ xs) reach l is soft = subst (λ (k : Loop Sound). AreQuiet xs k)
    (sym (soft_later l is x soft.0 reach)) (soft_quiet xs l is soft.1)

-- a loop that waits is quiet over soft frames
pub over_waiting : (n : ℕ) (input : List Sound) (s : Parts) → s.deck.mode ≡ WaitStart →
    AreSoft s.controls.rec_thresh (take n input) → IsQuietOver n input (strip_of s)
over_waiting n input s is soft = λ p reach.
    soft_behind (take n input) reach (seen (strip_of s) p)
    (ap (λ (d : Deck). d.mode) (seen_deck (strip_of s) p) ∙ is)
    (subst (λ (c : Controls). AreSoft c.rec_thresh (take n input))
    (sym (seen_controls (strip_of s) p)) soft)

-- so many frames at most
pub taken : (n : ℕ) (xs : List Sound) → length (take n xs) ≤ n
taken zero xs = omega arith
taken (suc n) [] = omega arith
taken (suc n) (x ∷ xs) = let less = taken n xs in omega arith

-- quiet for a number, and so over these
pub over_for : (n : ℕ) (input : List Sound) (s : StripOf) → IsQuietFor n s → IsQuietOver n input s
over_for zero input s h = λ p reach. tt
over_for (suc n) [] s h = λ p reach. tt
over_for (suc n) (x ∷ xs) s h =
    λ p reach. h p x (take n xs) reach (let less = taken n xs in omega arith)

-- one frame is always quiet
pub over_once : (input : List Sound) (s : StripOf) → IsQuietOver 1 input s
over_once input s = over_for 1 input s (quiet_once s)

-- one soft frame more
soft_append : (threshold : ℕ) (xs : List Sound) (x : Sound) → AreSoft threshold xs →
    nat_le threshold (loudness x) ≡ false → AreSoft threshold (xs ++ x ∷ [])
soft_append threshold [] x soft is = (is, tt)
soft_append threshold (y ∷ ys) x soft is = (soft.0, soft_append threshold ys x soft.1 is)

take_next : (i : ℕ) (xs : List Sound) (x : Sound) → i < length xs → x ≡ get_or xs i x →
    take (i + 1) xs ≡ take i xs ++ x ∷ []
take_next i [] x less is = absurd (omega arith)
take_next zero (y ∷ ys) x less is = ap (λ z. z ∷ []) (sym is)
take_next (suc i) (y ∷ ys) x less is = let more : suc i + 1 ≡ suc (i + 1) = omega arith in
    rw more (ap (λ zs. y ∷ zs) (take_next i ys x (omega arith) is))

-- one more soft frame
pub soft_more : (i threshold : ℕ) (xs : List Sound) (x : Sound) → i < length xs →
    x ≡ get_or xs i x → AreSoft threshold (take i xs) → nat_le threshold (loudness x) ≡ false →
    AreSoft threshold (take (i + 1) xs)
soft_more i threshold xs x less is soft quiet = subst (AreSoft threshold)
    (sym (take_next i xs x less is)) (soft_append threshold (take i xs) x soft quiet)

pub ruleset waiting = (over_waiting, over_for, over_once)
