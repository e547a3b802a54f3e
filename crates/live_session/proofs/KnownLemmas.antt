-- What is known of a journal whose commands were accepted: it is valid, and each reply of its run
-- has a return address.
use Rattle.std.proofs.Common.{◌≡◌, ℕ, true, List, [], ◌∷◌, ◌++◌, length, None, refl, sym, ap, ◌∙◌, subst, arith}
use Rattle.std.specs.List.{AllByRecursion}
use Rattle.sl_base.specs.Sounds.{Sound}
use Rattle.sl_commands.specs.declared.Command.{Command}
use Rattle.sl_commands.specs.declared.Command.TheVariants.{Down, Up, Hit, Set, SetGlobal, Get, GetGlobal, SaveLoop, SaveSession, Release, Quit}
use Rattle.sl_commands.specs.declared.Entry.{Entry}
use Rattle.sl_commands.specs.Commands.{is_outcome}
use Rattle.sl_commands.specs.Entries.{is_sender}
use Rattle.looper_rules.specs.Saves.{Save}
use Rattle.looper_rules.specs.SaveBlocks.{IsMade}
use Rattle.looper_rules.specs.Run.{Ran, run}
use Rattle.looper_rules.specs.Reached.{IsBeginning}
use Rattle.looper_laws.proofs.Kept.Starts.{begins}
use Rattle.run_laws.specs.Questions.{asked_for}
use Rattle.run_laws.proofs.Saves.Made.{run_from-made}
use Rattle.run_laws.proofs.Runs.Cuts.{run-run_from}
use Rattle.midi_bindings.specs.Played.{is_played, MayBePlayed}
use Rattle.senders.specs.declared.accepted.Accepted.{Accepted}
use Rattle.senders.specs.Commands.{commands_in, AreGood}
use Rattle.engine_steps.specs.Engines.{EngineOf, Beginning, first_looper, waiting}
use Rattle.live_steps.specs.Passed.{Passed, all_replies}
use Rattle.live_steps.specs.InStep.{AreInStep}
use Rattle.live_steps.proofs.JournalLemmas.{releases-count}
use Rattle.live_session.specs.Whole.{HasReturn}
use Rattle.live_session.proofs.JournalLemmas.{MaySend, all_valid}
use Rattle.live_session.proofs.SaveLemmas.{run_strips, may_release_all}
use Rattle.live_session.proofs.ReplyLemmas.{Known, played_asks_nothing, all_weaker, addressed}

-- what holds of all holds of the first
pub front_of : {X : Type 0} (P : X → Type 0) (xs ys : List X) → AllByRecursion P (xs ++ ys) →
    AllByRecursion P xs
front_of P [] ys all = tt
front_of P (x ∷ xs) ys all = (all.0, front_of P xs ys all.1)

pub rest_of : {X : Type 0} (P : X → Type 0) (xs ys : List X) → AllByRecursion P (xs ++ ys) →
    AllByRecursion P ys
rest_of P [] ys all = all
rest_of P (x ∷ xs) ys all = rest_of P xs ys all.1

good_send : (loops : ℕ) (accepted : List Accepted) → AreGood 0 loops accepted →
    AllByRecursion (MaySend 0 loops) (commands_in accepted)
good_send loops [] good = tt
good_send loops (a ∷ accepted) good = (
  record { sends = good.0.sends; allowed = good.0.within },
  good_send loops accepted good.1,
)

played_sends : (c : Command) → is_played c ≡ true → is_sender 1 c ≡ true
played_sends (Down target verb) played = refl
played_sends (Up target verb) played = refl
played_sends (Hit target verb) played = refl
played_sends (Set target control value) played = refl
played_sends (SetGlobal control value) played = absurd (cc)
played_sends (Get target control) played = absurd (cc)
played_sends (GetGlobal control) played = absurd (cc)
played_sends (SaveLoop target name) played = absurd (cc)
played_sends (SaveSession name) played = absurd (cc)
played_sends (Release target outcome) played = absurd (cc)
played_sends Quit played = absurd (cc)

played_send : (loops : ℕ) (cs : List Command) → AllByRecursion (MayBePlayed loops) cs →
    AllByRecursion (MaySend 1 loops) cs
played_send loops cs all =
    all_weaker (MayBePlayed loops) (MaySend 1 loops) cs
    (λ c may. record { sends = played_sends c may.played; allowed = may.allowed }) all

-- each save of a run is made as it must be
pub run_made : (b : Beginning) (es : List Entry) (input : List Sound) →
    IsBeginning b.settings b.chunks b.initial →
    AllByRecursion IsMade (run es input (first_looper b)).saves
run_made b es input is =
    subst (λ (r : Ran). AllByRecursion IsMade r.saves) (sym (run-run_from es input (first_looper
    b)))
    (run_from-made 0 es input (first_looper b) (begins b.settings b.chunks b.initial is))

module _ (b : Beginning) (input output : List Sound) (e : EngineOf) (p : Passed)
    (osc midi : List Accepted) (osc_left midi_left : List Command)
    (h : AreInStep b input output e p) where
  saves_are : (run e.journal.entries input (first_looper b)).saves ≡ h.answered ++ waiting e
  saves_are = ap (λ (r : Ran). r.saves) h.engine.ran

  -- the journal is valid, and what is known of its commands
  pub known_of : AreGood 0 (length b.settings.strips) osc → commands_in osc ≡ p.osc ++ osc_left →
      AllByRecursion (MayBePlayed (length b.settings.strips)) (commands_in midi) →
      commands_in midi ≡ p.midi ++ midi_left →
      AllByRecursion (λ (o : ℕ). is_outcome o ≡ true) p.saver →
      Known (length b.settings.strips) e.journal.entries osc p.osc osc_left
  known_of good osc_are played midi_are ends =
      let loops = length b.settings.strips in
      let es = e.journal.entries in
      let made = front_of IsMade h.answered (waiting e)
      (subst (AllByRecursion IsMade) saves_are (run_made b es input h.begins)) in
      let strips = front_of (λ (s : Save). length s.settings.strips ≡ loops) h.answered (waiting e)
      (subst (AllByRecursion (λ (s : Save). length s.settings.strips ≡ loops)) saves_are
      (run_strips b.settings b.chunks b.initial es input h.begins.in_range)) in
      let osc_may = front_of (MaySend 0 loops) p.osc osc_left
      (subst (AllByRecursion (MaySend 0 loops)) osc_are (good_send loops osc good)) in
      let midi_played = front_of (MayBePlayed loops) p.midi midi_left
      (subst (AllByRecursion (MayBePlayed loops)) midi_are played) in
      let count_0 = ap length h.osc in
      let count_1 = ap length h.midi in
      let count_2 = ap length h.saver ∙ releases-count h.answered p.saver h.each in
      let all = h.senders in
      record {
        stamped = h.engine.stamped;
        valid = all_valid loops es (omega arith)
            (subst (AllByRecursion (MaySend 0 loops)) (sym h.osc) osc_may)
            (subst (AllByRecursion (MaySend 1 loops)) (sym h.midi)
            (played_send loops p.midi midi_played))
            (subst (AllByRecursion (MaySend 2 loops)) (sym h.saver)
            (may_release_all loops h.answered p.saver made strips ends));
        good = good;
        whole = osc_are;
        osc = h.osc;
        midi = subst (AllByRecursion (λ (c : Command). asked_for c ≡ None)) (sym h.midi)
            (all_weaker (MayBePlayed loops) (λ (c : Command). asked_for c ≡ None) p.midi
            (λ c may. played_asks_nothing c may.played) midi_played);
      }

  -- so all replies have return addresses
  pub all_addressed : Known (length b.settings.strips) e.journal.entries osc p.osc osc_left →
      AllByRecursion (HasReturn osc) (all_replies p)
  all_addressed known =
      subst (AllByRecursion (HasReturn osc)) (ap (λ (r : Ran). r.replies) h.engine.ran)
      (addressed b.settings b.chunks b.initial (length b.settings.strips) e.journal.entries input
      osc p.osc osc_left known)
