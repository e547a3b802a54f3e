-- Commands and outcomes that are left are taken.
use Rattle.std.proofs.Common.{◌≡◌, ◌≤◌, ◌<◌, ℕ, zero, suc, List, [], ◌∷◌, ◌++◌, length, Option, Some, None, refl, sym, ap, ◌∙◌, subst, append_assoc, append-nil, length-append, arith}
use Rattle.std.specs.Prelude.{option_to_list, IsTrue}
use Rattle.sl_commands.specs.declared.Block.{Block}
use Rattle.sl_commands.specs.declared.Command.{Command}
use Rattle.sl_commands.specs.declared.Command.TheVariants.{Release}
use Rattle.sl_commands.specs.declared.Reply.{Reply}
use Rattle.sl_commands.specs.declared.Target.{Target}
use Rattle.sl_commands.specs.Commands.{is_release_target, is_outcome}
use Rattle.looper_rules.specs.Entries.{reply}
use Rattle.looper_rules.specs.SaveBlocks.{ends_in}
use Rattle.frame_stamp.specs.Journals.{HasRoom}
use Rattle.event_rings.specs.Ends.{BothEnds, SameBothRing, TakesRest, Drained}
use Rattle.engine_steps.specs.Engines.{EngineOf, entry_of, due_target, took, ClearsSent}
use Rattle.live_steps.specs.Passed.{Passed}
use Rattle.live_steps.proofs.StepLemmas.{release_clears}
use Rattle.live_steps.proofs.RoomLemmas.{osc_count, midi_count}
use Rattle.live_goes.specs.Going.{More, no_more, and_then, more_passed, Stands, Owes}
use Rattle.live_goes.proofs.GoLemmas.{goes_none, goes_then, goes_command, goes_outcome}
use Rattle.live_goes.proofs.StandLemmas.{owed_due, owed_room, stands_on}
use Rattle.settling.specs.Settled.{IsLeft}
use Rattle.settling.specs.Standing.{taken_by, MayCommand, StandsBehind, IsOwed, MayRelease}
use Rattle.settling.specs.Steps.{HasDrained, more_commands, more_outcomes, GoesBy}

-- nothing was taken
pub by_none : (e : EngineOf) → GoesBy no_more [] e e
by_none e = goes_none e

-- this was taken, and then that
pub by_then : (e e' e'' : EngineOf) (m n : More) (rs qs : List Reply) → GoesBy m rs e e' →
    GoesBy n qs e' e'' → GoesBy (and_then m n) (rs ++ qs) e e''
by_then e e' e'' m n rs qs x y =
    goes_then e e' e'' (record m { replies = rs }) (record n { replies = qs }) x y

-- what was drained
pub drained_none : {T : Type 0} (m : BothEnds T) → HasDrained m m []
drained_none m =
    record { taken = sym (append-nil m.taken); sent = refl; bound = refl }

pub drained_more : {T : Type 0} (follows : List T → T → ℕ → Type 0) (old mid new : BothEnds T)
    (xs : List T) (x : T) → HasDrained old mid xs → SameBothRing mid new →
    TakesRest follows x mid new → HasDrained old new (xs ++ x ∷ [])
drained_more follows old mid new xs x before ring next =
    record {
      taken = next.taken ∙ ap (λ l. l ++ x ∷ []) before.taken
          ∙ append_assoc old.taken xs (x ∷ []);
      sent = ring.sent ∙ before.sent;
      bound = ring.bound ∙ before.bound;
    }

pub drained_all : {T : Type 0} (old mid new : BothEnds T) (xs : List T) →
    HasDrained old mid xs → SameBothRing mid new → Drained mid new → IsLeft old xs
drained_all old mid new xs before ring last =
    sym before.sent ∙ sym ring.sent ∙ last.all ∙ last.taken ∙ before.taken

-- more commands of one sender
pub commands_more : (sender : ℕ) (cs ds : List Command) →
    and_then (more_commands sender cs) (more_commands sender ds)
    ≡ more_commands sender (cs ++ ds)
commands_more zero cs ds = refl
commands_more (suc sender) cs ds = refl

pub no_commands : (sender : ℕ) → no_more ≡ more_commands sender []
no_commands zero = refl
no_commands (suc sender) = refl

-- a command that was given
pub command_by : (sender : ℕ) (c : Command) (e next : EngineOf) (answer : Option Reply) →
    sender < 2 → next ≡ took (entry_of sender c e) e →
    answer ≡ reply (entry_of sender c e) e.looper →
    GoesBy (more_commands sender (c ∷ [])) (option_to_list answer) e next
command_by zero c e next answer two now told =
    subst (λ n. GoesBy (more_commands 0 (c ∷ [])) (option_to_list answer) e n) (sym now)
    (subst (λ r. GoesBy (more_commands 0 (c ∷ [])) (option_to_list r) e (took (entry_of 0 c e) e))
    (sym told) (goes_command 0 c e two))
command_by (suc zero) c e next answer two now told =
    subst (λ n. GoesBy (more_commands 1 (c ∷ [])) (option_to_list answer) e n) (sym now)
    (subst (λ r. GoesBy (more_commands 1 (c ∷ [])) (option_to_list r) e (took (entry_of 1 c e) e))
    (sym told) (goes_command 1 c e two))
command_by (suc (suc n)) c e next answer two now told = absurd (omega arith)

-- what is drained next leaves no more than was sent
drained_few : {T : Type 0} (follows : List T → T → ℕ → Type 0) (x : T) (m m' : BothEnds T) →
    SameBothRing m m' → TakesRest follows x m m' → length m.taken < length m.sent
drained_few follows x m m' ring next =
    let all = ap length ring.sent in
    let order = ap length next.order ∙ length-append m'.taken next.rest in
    let one = ap length next.taken ∙ length-append m.taken (x ∷ []) in
    omega arith

-- the journal has room for a command that is drained
pub command_room : (follows : List Command → Command → ℕ → Type 0) (sender : ℕ) (c : Command)
    (e : EngineOf) (m m' : BothEnds Command) → sender < 2 → MayCommand sender e m →
    SameBothRing m m' → TakesRest follows c m m' → HasRoom sender e.journal
command_room follows zero c e m m' two may ring next =
    let s = may.stands.step in
    let count = osc_count s.0 s.1 s.2 e may.passed s.3 in
    let taken = ap length may.taken in
    let below = drained_few follows c m m' ring next in
    let few = may.few in
    omega (arith, count, taken, below, few)
command_room follows (suc zero) c e m m' two may ring next =
    let s = may.stands.step in
    let count = midi_count s.0 s.1 s.2 e may.passed s.3 in
    let taken = ap length may.taken in
    let below = drained_few follows c m m' ring next in
    let few = may.few in
    omega (arith, count, taken, below, few)
command_room follows (suc (suc n)) c e m m' two may ring next = absurd (omega arith)

-- the engine stands behind commands that it took
none_longer : {A : Type 0} (xs : List A) (n : ℕ) → length xs ≤ n → length (xs ++ []) ≤ n
none_longer xs n few = subst (λ l. length l ≤ n) (sym (append-nil xs)) few

pub commands_stand : (sender : ℕ) (cs : List Command) (e e' : EngineOf) (p : Passed)
    (rs : List Reply) → sender < 2 → Stands e p →
    length (taken_by sender p ++ cs) ≤ e.journal.quota →
    GoesBy (more_commands sender cs) rs e e' →
    Stands e' (more_passed (record (more_commands sender cs) { replies = rs }) p)
commands_stand zero cs e e' p rs two stands few g =
    stands_on e e' p (record (more_commands 0 cs) { replies = rs }) stands g few
    (none_longer p.midi e.journal.quota stands.midi)
commands_stand (suc zero) cs e e' p rs two stands few g =
    stands_on e e' p (record (more_commands 1 cs) { replies = rs }) stands g
    (none_longer p.osc e.journal.quota stands.osc) few
commands_stand (suc (suc n)) cs e e' p rs two stands few g = absurd (omega arith)

pub taken_more : (sender : ℕ) (cs : List Command) (replies : List Reply) (p : Passed) →
    taken_by sender (more_passed (record (more_commands sender cs) { replies = replies }) p)
    ≡ taken_by sender p ++ cs
taken_more zero cs replies p = refl
taken_more (suc sender) cs replies p = refl

-- the next command may be taken
pub command_next : (follows : List Command → Command → ℕ → Type 0) (sender : ℕ) (c : Command)
    (e e' : EngineOf) (m m' : BothEnds Command) (rs : List Reply) → sender < 2 →
    MayCommand sender e m → SameBothRing m m' → TakesRest follows c m m' →
    GoesBy (more_commands sender (c ∷ [])) rs e e' → MayCommand sender e' m'
command_next follows sender c e e' m m' rs two may ring next g =
    let all = ap length ring.sent in
    let below = drained_few follows c m m' ring next in
    let few = may.few in
    let taken = ap length may.taken in
    let both = length-append (taken_by sender may.passed) (c ∷ []) in
    let quota = g.quota in
    record {
      passed = more_passed (record (more_commands sender (c ∷ [])) { replies = rs }) may.passed;
      stands = commands_stand sender (c ∷ []) e e' may.passed rs two may.stands (omega arith) g;
      taken = taken_more sender (c ∷ []) rs may.passed
          ∙ ap (λ l. l ++ c ∷ []) may.taken ∙ sym next.taken;
      few = omega arith;
    }

-- the engine stands behind outcomes and blocks that came behind
pub stands_behind : (e e' : EngineOf) (outs more : List ℕ) (sent given : List Block)
    (rs : List Reply) → StandsBehind e outs sent →
    GoesBy (record no_more { saver = more; blocks = given }) rs e e' →
    StandsBehind e' (outs ++ more) (sent ++ given)
stands_behind e e' outs more sent given rs x g =
    let m : More = record no_more { saver = more; replies = rs; blocks = given } in
    record {
      passed = more_passed m x.passed;
      stands = stands_on e e' x.passed m x.stands g
          (none_longer x.passed.osc e.journal.quota x.stands.osc)
          (none_longer x.passed.midi e.journal.quota x.stands.midi);
      saver = ap (λ l. l ++ more) x.saver;
      blocks_are = ap (λ l. l ++ given) x.blocks_are;
    }

-- what is owed is due, and has room
owed : (e : EngineOf) (x : IsOwed e) → Owes e x.stands.passed
owed e x =
    let taken = ap length x.stands.saver in
    let ends = ap ends_in x.stands.blocks_are in
    let more = x.more in
    record { stands = x.stands.stands; more = omega arith }

pub release_due : (e : EngineOf) → IsOwed e → due_target e ≡ None → ⊥
release_due e x none = owed_due e x.stands.passed (owed e x) none

pub release_room : (e : EngineOf) (target : Target) → IsOwed e → due_target e ≡ Some target →
    HasRoom 2 e.journal
release_room e target x is = owed_room e x.stands.passed target (owed e x) is

pub due_clears_in : (e : EngineOf) (target : Target) (o : ℕ) → IsOwed e →
    due_target e ≡ Some target → ClearsSent (entry_of 2 (Release target o) e) e
due_clears_in e target o x is =
    let s = x.stands.stands.step in
    release_clears s.0 s.1 s.2 target o e x.stands.passed s.3 is

-- an outcome that was given
pub outcome_by : (target : Target) (o : ℕ) (e next : EngineOf) (answer : Option Reply) →
    due_target e ≡ Some target →
    IsTrue (is_release_target (length e.looper.tracks) target) → IsTrue (is_outcome o) →
    next ≡ took (entry_of 2 (Release target o) e) e →
    answer ≡ reply (entry_of 2 (Release target o) e) e.looper →
    GoesBy (more_outcomes (o ∷ [])) (option_to_list answer) e next
outcome_by target o e next answer due there ends now told =
    let en = entry_of 2 (Release target o) e in
    subst (λ n. GoesBy (more_outcomes (o ∷ [])) (option_to_list answer) e n) (sym now)
    (subst (λ r. GoesBy (more_outcomes (o ∷ [])) (option_to_list r) e (took en e)) (sym told)
    (goes_outcome target o e due there ends))

-- an outcome that is drained is owed
pub drained_owed : (follows : List ℕ → ℕ → ℕ → Type 0) (o : ℕ) (e : EngineOf)
    (m m' : BothEnds ℕ) → MayRelease e m → SameBothRing m m' → TakesRest follows o m m' → IsOwed e
drained_owed follows o e m m' may ring next =
    let below = drained_few follows o m m' ring next in
    let few = may.few in
    record { outcomes = m.taken; blocks = may.blocks; stands = may.stands; more = omega arith }

-- and the next one may be taken
pub release_next : (follows : List ℕ → ℕ → ℕ → Type 0) (o : ℕ) (e e' : EngineOf)
    (m m' : BothEnds ℕ) (rs : List Reply) → MayRelease e m → SameBothRing m m' →
    TakesRest follows o m m' → GoesBy (more_outcomes (o ∷ [])) rs e e' → MayRelease e' m'
release_next follows o e e' m m' rs may ring next g =
    let stands = stands_behind e e' m.taken (o ∷ []) may.blocks [] rs may.stands g in
    record {
      blocks = may.blocks ++ [];
      stands = subst (λ l. StandsBehind e' l (may.blocks ++ [])) (sym next.taken) stands;
      few = (let all = ap length ring.sent in
          let same = ap ends_in (append-nil may.blocks) in let few = may.few in omega arith);
    }
