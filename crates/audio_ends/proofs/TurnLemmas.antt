-- What the parts of a turn do, from what the calls in them say.
use Rattle.std.proofs.Common.{◌≡◌, ◌≢◌, ℕ, zero, suc, ◌+◌, ◌*◌, ◌≤◌, ◌<◌, Bool, true, false, ◌||◌, List, [], ◌∷◌, ◌++◌, length, drop, Option, Some, None, refl, sym, ap, ap₂, ◌∙◌, subst, arith, append_assoc, append-nil, length-append}
use Rattle.std.specs.Prelude.{option_to_list, option_map, IsTrue}
use Rattle.std.specs.List.{list_any, AllByRecursion}
use Rattle.sl_base.specs.Sounds.{Sound}
use Rattle.sl_base.specs.Counting.{Rose}
use Rattle.sl_commands.specs.declared.Target.{Target}
use Rattle.sl_commands.specs.declared.Command.{Command}
use Rattle.sl_commands.specs.declared.Command.TheVariants.{Release}
use Rattle.sl_commands.specs.declared.Entry.{Entry}
use Rattle.sl_commands.specs.declared.Reply.{Reply}
use Rattle.sl_commands.specs.declared.Block.{Block}
use Rattle.sl_commands.specs.Commands.{is_release_target, is_outcome}
use Rattle.sl_commands.specs.Blocks.{may_follow}
use Rattle.looper_rules.specs.Saves.{Save}
use Rattle.looper_rules.specs.Entries.{reply}
use Rattle.frame_stamp.specs.Journals.{JournalOf, HasRoom}
use Rattle.event_rings.specs.Ends.{PutEnd, TakeEnd, SamePutRing, SameTakeRing}
use Rattle.engine_steps.specs.Engines.{EngineOf, entry_of, left, next_block, due_target, ClearsSent, took, went_on, put_out, block_sent, waiting, first_of, target_of}
use Rattle.engine_steps.proofs.ClearLemmas.{commands_clear_nothing}
use Rattle.live_steps.specs.Passed.{Passed, all_replies, with_command, with_outcome, with_block, PutsHeld}
use Rattle.live_steps.specs.InStep.{AreInStep, StayInStep, GoOnInStep, AreInSomeStep}
use Rattle.engine_steps.proofs.DueLemmas.{due-command, IsOldest, oldest_is, due-release}
use Rattle.engine_steps.proofs.SentLemmas.{only_sends, some_left}
use Rattle.live_steps.proofs.StepLemmas.{command_step, outcome_step, held_step, block_step, release_clears, apart_in}
use Rattle.live_steps.proofs.RoomLemmas.{osc_count, midi_count, outcome_room, reply_room, block_room, block_follows}
use Rattle.audio_ends.specs.declared.rings.RingEnds.{RingEnds}
use Rattle.audio_ends.specs.declared.stop.Stop.{Stop}
use Rattle.audio_ends.specs.declared.stop.Stop.TheVariants.{Emptied, Budget, Held, Unasked}
use Rattle.audio_ends.specs.Ends.{passed, is_quit, has_quit, TakesOn, PutsOn, GoOn, HasLimits, MayTurn}
use Rattle.audio_ends.specs.Turns.{Stays, EntersNow, Takes, Cause, Frees, BlockCause, count_of, nones_of, limit_of}

-- ends that go on
takes_then : {T : Type 0} (a b c : TakeEnd T) → TakesOn a b → TakesOn b c → TakesOn a c
takes_then a b c k l =
    record {
      ring = record {
        name = l.ring.name ∙ k.ring.name;
        kind = l.ring.kind ∙ k.ring.kind;
        capacity = l.ring.capacity ∙ k.ring.capacity;
        limit = l.ring.limit ∙ k.ring.limit;
        bound = l.ring.bound ∙ k.ring.bound;
      };
      taken = (let x = k.taken in let y = l.taken in omega arith);
      nones = (let x = k.nones in let y = l.nones in omega arith);
    }

puts_then : {T : Type 0} (a b c : PutEnd T) → PutsOn a b → PutsOn b c → PutsOn a c
puts_then a b c k l =
    record {
      ring = record {
        name = l.ring.name ∙ k.ring.name;
        kind = l.ring.kind ∙ k.ring.kind;
        capacity = l.ring.capacity ∙ k.ring.capacity;
        limit = l.ring.limit ∙ k.ring.limit;
        bound = l.ring.bound ∙ k.ring.bound;
      };
      sent = (let x = k.sent in let y = l.sent in omega arith);
      fulls = (let x = k.fulls in let y = l.fulls in omega arith);
    }

takes_none : {T : Type 0} (a : TakeEnd T) → TakesOn a a
takes_none a =
    record {
      ring = record { name = refl; kind = refl; capacity = refl; limit = refl; bound = refl };
      taken = omega arith;
      nones = omega arith;
    }

puts_none : {T : Type 0} (a : PutEnd T) → PutsOn a a
puts_none a =
    record {
      ring = record { name = refl; kind = refl; capacity = refl; limit = refl; bound = refl };
      sent = omega arith;
      fulls = omega arith;
    }

pub on_then : (a b c : RingEnds) → GoOn a b → GoOn b c → GoOn a c
on_then a b c k l =
    record {
      osc = takes_then a.osc b.osc c.osc k.osc l.osc;
      midi = takes_then a.midi b.midi c.midi k.midi l.midi;
      saver = takes_then a.saver b.saver c.saver k.saver l.saver;
      replies = puts_then a.replies b.replies c.replies k.replies l.replies;
      blocks = puts_then a.blocks b.blocks c.blocks k.blocks l.blocks;
    }

pub on_none : (a : RingEnds) → GoOn a a
on_none a =
    record {
      osc = takes_none a.osc;
      midi = takes_none a.midi;
      saver = takes_none a.saver;
      replies = puts_none a.replies;
      blocks = puts_none a.blocks;
    }

pub limits_on : (quota : ℕ) (a b : RingEnds) → GoOn a b → HasLimits quota a → HasLimits quota b
limits_on quota a b k r =
    record {
      osc = (let x = k.osc.ring.limit in let y = r.osc in omega arith);
      midi = (let x = k.midi.ring.limit in let y = r.midi in omega arith);
      replies = (let x = k.replies.ring.limit in let y = r.replies in omega arith);
      blocks = (let x = k.blocks.ring.limit in let y = r.blocks in omega arith);
      bound = (let x = k.blocks.ring.bound in let y = r.bound in omega arith);
    }

-- they are in some step after it
pub some_step : (e next : EngineOf) (p more : Passed) → StayInStep e p next more →
    AreInSomeStep e p → AreInSomeStep next more
some_step e next p more step h = (h.0, h.1, h.2, step h.0 h.1 h.2 h.3)

-- one part behind another
pub stays_then : (e m n : EngineOf) (a b c : RingEnds) → Stays e m a b → Stays m n b c →
    Stays e n a c
stays_then e m n a b c s t =
    record {
      step = λ begin input output h. t.step begin input output (s.step begin input output h);
      on = on_then a b c s.on t.on;
      may = t.may;
      frames = t.frames ∙ s.frames;
    }

pub stays_none : (e : EngineOf) (a : RingEnds) → MayTurn e a → Stays e e a a
stays_none e a may =
    record { step = λ begin input output h. h; on = on_none a; may = may; frames = refl }

-- entries of the moment, and more of them
enters_then : (e m n : EngineOf) → m.frames ≡ e.frames → EntersNow e m → EntersNow m n →
    EntersNow e n
enters_then e m n same s t =
    record {
      more = s.more ++ t.more;
      entries = t.entries ∙ ap (λ es. es ++ t.more) s.entries
          ∙ append_assoc e.journal.entries s.more t.more;
      now = both s.more t.more s.now
          (subst (λ f. AllByRecursion (λ (en : Entry). en.frame ≡ f) t.more) same t.now);
    }
  where
    both : (xs ys : List Entry) → AllByRecursion (λ (en : Entry). en.frame ≡ e.frames) xs →
        AllByRecursion (λ (en : Entry). en.frame ≡ e.frames) ys →
        AllByRecursion (λ (en : Entry). en.frame ≡ e.frames) (xs ++ ys)
    both [] ys first next = next
    both (x ∷ xs) ys first next = (first.0, both xs ys first.1 next)

enters_none : (e : EngineOf) → EntersNow e e
enters_none e = record { more = []; entries = sym (append-nil e.journal.entries); now = tt }

enters_one : (en : Entry) (e next : EngineOf) → en.frame ≡ e.frames → next ≡ took en e →
    EntersNow e next
enters_one en e next now is =
    record {
      more = en ∷ [];
      entries = ap (λ (f : EngineOf). f.journal.entries) is;
      now = (now, tt);
    }

pub takes_more : (e m n : EngineOf) (a b c : RingEnds) → Takes e m a b → Takes m n b c →
    Takes e n a c
takes_more e m n a b c s t =
    record {
      stays = stays_then e m n a b c s.stays t.stays;
      now = enters_then e m n s.stays.frames s.now t.now;
      due = (let x = s.due in let y = t.due in omega arith);
    }

pub takes_nothing : (e : EngineOf) (a : RingEnds) → MayTurn e a → Takes e e a a
takes_nothing e a may = record { stays = stays_none e a may; now = enters_none e; due = refl }

-- what a part without a change of the engine keeps
stays_by : (e : EngineOf) (a b : RingEnds) → MayTurn e a → GoOn a b →
    StayInStep e (passed a) e (passed b) → length b.osc.taken ≤ e.journal.quota →
    length b.midi.taken ≤ e.journal.quota → b.quit ≡ has_quit (passed b) → Stays e e a b
stays_by e a b may on step osc midi quit =
    record {
      step = step;
      on = on;
      may = record {
        step = some_step e e (passed a) (passed b) step may.step;
        limits = limits_on e.journal.quota a b on may.limits;
        osc = osc;
        midi = midi;
        quit = quit;
      };
      frames = refl;
    }

-- nothing passed
pub stays_same : (e : EngineOf) (a b : RingEnds) → MayTurn e a → GoOn a b →
    passed b ≡ passed a → b.quit ≡ a.quit → Stays e e a b
stays_same e a b may on same quit =
    stays_by e a b may on
    (λ begin input output h. subst (λ p. AreInStep begin input output e p) (sym same) h)
    (let x = ap (λ (p : Passed). length p.osc) same in let y = may.osc in omega arith)
    (let x = ap (λ (p : Passed). length p.midi) same in let y = may.midi in omega arith)
    (quit ∙ may.quit ∙ ap has_quit (sym same))

pub takes_same : (e : EngineOf) (a b : RingEnds) → MayTurn e a → GoOn a b →
    passed b ≡ passed a → b.quit ≡ a.quit → Takes e e a b
takes_same e a b may on same quit =
    record {
      stays = stays_same e a b may on same quit;
      now = enters_none e;
      due = (let x = ap (λ (p : Passed). length p.saver) same in omega arith);
    }

-- the held reply put
pub takes_held : (e : EngineOf) (a b : RingEnds) → MayTurn e a →
    PutsHeld (passed a) (passed b) → GoOn a b → b.quit ≡ a.quit → Takes e e a b
takes_held e a b may put on quit =
    record {
      stays = stays_by e a b may on (held_step e (passed a) (passed b) put)
          (let x = ap length put.osc in let y = may.osc in omega arith)
          (let x = ap length put.midi in let y = may.midi in omega arith)
          (quit ∙ may.quit
          ∙ ap₂ (λ xs ys. list_any is_quit xs || list_any is_quit ys) (sym put.osc) (sym put.midi));
      now = enters_none e;
      due = (let x = ap length put.saver in omega arith);
    }

pub held_room : (e : EngineOf) (a : RingEnds) → MayTurn e a →
    length a.replies.sent + length (option_to_list a.held) ≤ a.replies.limit
held_room e a may =
    let h = may.step
    in let x = reply_room h.0 h.1 h.2 e (passed a) e.journal.quota h.3 may.osc may.midi
    in let y = may.limits.replies
    in omega arith

-- a command taken
any_more : (xs : List Command) (c : Command) →
    list_any is_quit (xs ++ c ∷ []) ≡ (list_any is_quit xs || is_quit c)
any_more [] c = or_none (is_quit c)
  where
    or_none : (b : Bool) → (b || false) ≡ b
    or_none true = refl
    or_none false = refl
any_more (x ∷ xs) c = by_first (is_quit x) xs c (any_more xs c)
  where
    by_first : (b : Bool) (xs : List Command) (c : Command) →
        list_any is_quit (xs ++ c ∷ []) ≡ (list_any is_quit xs || is_quit c) →
        (b || list_any is_quit (xs ++ c ∷ [])) ≡ ((b || list_any is_quit xs) || is_quit c)
    by_first true xs c is = refl
    by_first false xs c is = is

or_swap : (a b q : Bool) → ((a || q) || b) ≡ ((a || b) || q)
or_swap true b q = refl
or_swap false true true = refl
or_swap false true false = refl
or_swap false false true = refl
or_swap false false false = refl

or_assoc : (a b q : Bool) → (a || (b || q)) ≡ ((a || b) || q)
or_assoc true b q = refl
or_assoc false b q = refl

quit_more : (sender : ℕ) (c : Command) (r : Option Reply) (p : Passed) →
    has_quit (with_command sender c r p) ≡ (has_quit p || is_quit c)
quit_more zero c r p =
    ap (λ b. b || list_any is_quit p.midi) (any_more p.osc c)
    ∙ or_swap (list_any is_quit p.osc) (list_any is_quit p.midi) (is_quit c)
quit_more (suc sender) c r p =
    ap (λ b. list_any is_quit p.osc || b) (any_more p.midi c)
    ∙ or_assoc (list_any is_quit p.osc) (list_any is_quit p.midi) (is_quit c)

pub take_clears : (sender : ℕ) (c : Command) (e : EngineOf) → sender < 2 →
    ClearsSent (entry_of sender c e) e
take_clears sender c e two = commands_clear_nothing (entry_of sender c e) e two

pub take_room : (sender : ℕ) (c : Command) (r : Option Reply) (e : EngineOf) (a m : RingEnds) →
    sender < 2 → MayTurn e a → count_of sender m ≤ limit_of sender a →
    passed m ≡ with_command sender c r (passed a) → HasRoom sender e.journal
take_room zero c r e a m two may few is =
    let h = may.step
    in let x = osc_count h.0 h.1 h.2 e (passed a) h.3
    in let y = ap (λ (p : Passed). length p.osc) is
    in let z = length-append a.osc.taken (c ∷ [])
    in let w = may.limits.osc
    in omega (arith, few)
take_room (suc zero) c r e a m two may few is =
    let h = may.step
    in let x = midi_count h.0 h.1 h.2 e (passed a) h.3
    in let y = ap (λ (p : Passed). length p.midi) is
    in let z = length-append a.midi.taken (c ∷ [])
    in let w = may.limits.midi
    in omega (arith, few)
take_room (suc (suc n)) c r e a m two may few is = absurd (omega arith)

-- no more was taken than the quota
osc_within : (sender quota : ℕ) (c : Command) (r : Option Reply) (a m : RingEnds) →
    HasLimits quota a → length a.osc.taken ≤ quota → count_of sender m ≤ limit_of sender a →
    passed m ≡ with_command sender c r (passed a) → length m.osc.taken ≤ quota
osc_within zero quota c r a m limits before few is =
    let y = limits.osc in omega (arith, few)
osc_within (suc n) quota c r a m limits before few is =
    let x = ap (λ (p : Passed). length p.osc) is in omega (arith, before)

midi_within : (sender quota : ℕ) (c : Command) (r : Option Reply) (a m : RingEnds) → sender < 2 →
    HasLimits quota a → length a.midi.taken ≤ quota → count_of sender m ≤ limit_of sender a →
    passed m ≡ with_command sender c r (passed a) → length m.midi.taken ≤ quota
midi_within zero quota c r a m two limits before few is =
    let x = ap (λ (p : Passed). length p.midi) is in omega (arith, before)
midi_within (suc zero) quota c r a m two limits before few is =
    let y = limits.midi in omega (arith, few)
midi_within (suc (suc n)) quota c r a m two limits before few is = absurd (omega arith)

-- the ends with another reply held, and with this said of a quit
abbrev pub with_held : Option Reply → Bool → RingEnds → RingEnds
with_held r quit a = record a { held = r; quit = quit }

on_held : (a m : RingEnds) (r : Option Reply) (quit : Bool) → GoOn a m → GoOn a (with_held r quit m)
on_held a m r quit k =
    record { osc = k.osc; midi = k.midi; saver = k.saver; replies = k.replies; blocks = k.blocks }

-- another reply held
abbrev holding : Option Reply → Passed → Passed
holding r p = record p { held = r }

held_command : (sender : ℕ) (c : Command) (old new : Option Reply) (p : Passed) →
    holding new (with_command sender c old p) ≡ with_command sender c new p
held_command zero c old new p = refl
held_command (suc sender) c old new p = refl

saver_command : (sender : ℕ) (c : Command) (r : Option Reply) (p : Passed) →
    (with_command sender c r p).saver ≡ p.saver
saver_command zero c r p = refl
saver_command (suc sender) c r p = refl

pub takes_command : (sender : ℕ) (c : Command) (answer : Option Reply) (quit : Bool)
    (e next : EngineOf) (a m : RingEnds) → sender < 2 → a.held ≡ None → MayTurn e a → GoOn a m →
    count_of sender m ≤ limit_of sender a →
    passed m ≡ with_command sender c a.held (passed a) →
    quit ≡ (a.quit || is_quit c) →
    next ≡ took (entry_of sender c e) e → answer ≡ reply (entry_of sender c e) e.looper →
    Takes e next a (with_held answer quit m)
takes_command sender c answer quit e next a m two free may k few is quits now told =
    let en = entry_of sender c e
    in let b = with_held answer quit m
    in let to : passed b ≡ with_command sender c answer (passed a) =
    ap (holding answer) is ∙ held_command sender c a.held answer (passed a)
    in let step : StayInStep e (passed a) next (passed b) =
    subst (λ (y : EngineOf × Passed). StayInStep e (passed a) y.0 y.1)
    (λ i. (sym now i, (ap (λ r. with_command sender c r (passed a)) (sym told) ∙ sym to) i))
    (command_step sender c e (passed a) two free)
    in let on = on_held a m answer quit k
    in let quota : e.journal.quota ≡ next.journal.quota =
    ap (λ (f : EngineOf). f.journal.quota) (sym now)
    in let saver = ap (λ (p : Passed). length p.saver) to
    ∙ ap length (saver_command sender c answer (passed a))
    in let due : next.due ≡ e.due = ap (λ (f : EngineOf). f.due) now ∙ due-command en e two
    in record {
      stays = record {
        step = step;
        on = on;
        may = record {
          step = some_step e next (passed a) (passed b) step may.step;
          limits = subst (λ q. HasLimits q b) quota (limits_on e.journal.quota a b on may.limits);
          osc = subst (λ q. length m.osc.taken ≤ q) quota
              (osc_within sender e.journal.quota c a.held a m may.limits may.osc few is);
          midi = subst (λ q. length m.midi.taken ≤ q) quota
              (midi_within sender e.journal.quota c a.held a m two may.limits may.midi few is);
          quit = quits ∙ ap (λ q. q || is_quit c) may.quit
              ∙ sym (quit_more sender c answer (passed a)) ∙ ap has_quit (sym to);
        };
        frames = ap (λ (f : EngineOf). f.frames) now;
      };
      now = enters_one en e next refl now;
      due = (let x = ap length due in omega arith);
    }

-- an outcome taken
pub release_room : (target : Target) (e : EngineOf) (a : RingEnds) → MayTurn e a →
    due_target e ≡ Some target → HasRoom 2 e.journal
release_room target e a may due =
    let h = may.step
    in outcome_room h.0 h.1 h.2 e (passed a) target h.3 may.osc may.midi due

pub due_clears_in : (target : Target) (o : ℕ) (e : EngineOf) (a : RingEnds) → MayTurn e a →
    due_target e ≡ Some target → ClearsSent (entry_of 2 (Release target o) e) e
due_clears_in target o e a may due =
    let h = may.step in release_clears h.0 h.1 h.2 target o e (passed a) h.3 due

pub takes_outcome : (target : Target) (o : ℕ) (answer : Option Reply)
    (e next : EngineOf) (a m : RingEnds) → due_target e ≡ Some target →
    is_release_target (length e.looper.tracks) target ≡ true → is_outcome o ≡ true →
    a.held ≡ None → MayTurn e a → GoOn a m →
    passed m ≡ with_outcome o a.held (passed a) → m.quit ≡ a.quit →
    next ≡ took (entry_of 2 (Release target o) e) e →
    answer ≡ reply (entry_of 2 (Release target o) e) e.looper →
    Takes e next a (with_held answer m.quit m)
takes_outcome target o answer e next a m due there ends free may k is quit now told =
    let en = entry_of 2 (Release target o) e
    in let b = with_held answer m.quit m
    in let to : passed b ≡ with_outcome o answer (passed a) = ap (holding answer) is
    in let step : StayInStep e (passed a) next (passed b) =
    subst (λ (y : EngineOf × Passed). StayInStep e (passed a) y.0 y.1)
    (λ i. (sym now i, (ap (λ r. with_outcome o r (passed a)) (sym told) ∙ sym to) i))
    (outcome_step target o e (passed a) due there ends free)
    in let on = on_held a m answer m.quit k
    in let quota : e.journal.quota ≡ next.journal.quota =
    ap (λ (f : EngineOf). f.journal.quota) (sym now)
    in let h = may.step
    in let oldest = oldest_is e.due target due
    in let rest : next.due ≡ oldest.rest =
    ap (λ (f : EngineOf). f.due) now
    ∙ due-release target o e oldest there ends (apart_in h.0 h.1 h.2 e (passed a) h.3)
    in record {
      stays = record {
        step = step;
        on = on;
        may = record {
          step = some_step e next (passed a) (passed b) step may.step;
          limits = subst (λ q. HasLimits q b) quota (limits_on e.journal.quota a b on may.limits);
          osc = subst (λ q. length m.osc.taken ≤ q) quota
              (let x = ap (λ (p : Passed). length p.osc) is in omega (arith, may.osc));
          midi = subst (λ q. length m.midi.taken ≤ q) quota
              (let x = ap (λ (p : Passed). length p.midi) is in omega (arith, may.midi));
          quit = quit ∙ may.quit ∙ ap has_quit (sym to);
        };
        frames = ap (λ (f : EngineOf). f.frames) now;
      };
      now = enters_one en e next refl now;
      due = (let x = ap length rest in let y = ap length oldest.is in
          let z = ap (λ (p : Passed). length p.saver) to in
          let w = length-append a.saver.taken (o ∷ []) in omega arith);
    }

-- a block
pub may_put : (block : Block) (e : EngineOf) (a : RingEnds) → MayTurn e a →
    next_block e ≡ Some block → IsTrue (may_follow a.blocks.sent block a.blocks.bound)
may_put block e a may is =
    let h = may.step
    in block_follows h.0 h.1 h.2 e (passed a) e.journal.quota a.blocks.bound block h.3 may.osc
    may.midi may.limits.bound is

pub put_room : (block : Block) (e : EngineOf) (a : RingEnds) → MayTurn e a →
    next_block e ≡ Some block → length a.blocks.sent < a.blocks.limit
put_room block e a may is =
    let h = may.step
    in let x = block_room h.0 h.1 h.2 e (passed a) e.journal.quota h.3 may.osc may.midi
    in let y = may.limits.blocks
    in let z = some_left e block is
    in omega arith

pub stays_block : (block : Block) (e next : EngineOf) (a b : RingEnds) → MayTurn e a → GoOn a b →
    next_block e ≡ Some block → next ≡ block_sent e → passed b ≡ with_block block (passed a) →
    b.quit ≡ a.quit → Stays e next a b
stays_block block e next a b may k is now put quit =
    let only = only_sends e
    in let step : StayInStep e (passed a) next (passed b) =
    subst (λ (y : EngineOf × Passed). StayInStep e (passed a) y.0 y.1)
    (λ i. (sym now i, sym put i)) (block_step block e (passed a) is)
    in let quota : e.journal.quota ≡ next.journal.quota =
    ap (λ (j : JournalOf). j.quota) (sym only.journal)
    ∙ ap (λ (f : EngineOf). f.journal.quota) (sym now)
    in record {
      step = step;
      on = k;
      may = record {
        step = some_step e next (passed a) (passed b) step may.step;
        limits = subst (λ q. HasLimits q b) quota (limits_on e.journal.quota a b k may.limits);
        osc = subst (λ q. length b.osc.taken ≤ q) quota
            (let x = ap (λ (p : Passed). length p.osc) put in omega (arith, may.osc));
        midi = subst (λ q. length b.midi.taken ≤ q) quota
            (let x = ap (λ (p : Passed). length p.midi) put in omega (arith, may.midi));
        quit = quit ∙ may.quit ∙ ap has_quit (sym put);
      };
      frames = ap (λ (f : EngineOf). f.frames) now ∙ only.frames;
    }

-- a count that rose since later rose
rose_since : (before middle now : ℕ) → before ≤ middle → Rose middle now → Rose before now
rose_since before middle now le rose = omega (arith, le, rose)

rose_on : (before middle now : ℕ) → middle ≤ now → Rose before middle → Rose before now
rose_on before middle now le rose = omega (arith, le, rose)

nones_later : (sender : ℕ) (a b : RingEnds) → GoOn a b → nones_of sender a ≤ nones_of sender b
nones_later zero a b k = k.osc.nones
nones_later (suc zero) a b k = k.midi.nones
nones_later (suc (suc n)) a b k = k.saver.nones

count_later : (sender : ℕ) (a b : RingEnds) → GoOn a b → count_of sender a ≤ count_of sender b
count_later zero a b k = k.osc.taken
count_later (suc zero) a b k = k.midi.taken
count_later (suc (suc n)) a b k = k.saver.taken

-- a cause within a part of the takes is one of all
pub cause_within : (sender : ℕ) (e m n : EngineOf) (a b c : RingEnds) (s : Stop) → Takes e m a b →
    Cause sender m b c s → Cause sender e a c s
cause_within sender e m n a b c Emptied t cause =
    rose_since (nones_of sender a) (nones_of sender b) (nones_of sender c)
    (nones_later sender a b t.stays.on) cause
cause_within sender e m n a b c Budget t cause =
    omega (arith, count_later sender a b t.stays.on, cause)
cause_within sender e m n a b c Held t cause =
    rose_since a.replies.fulls b.replies.fulls c.replies.fulls t.stays.on.replies.fulls cause
cause_within sender e m n a b c Unasked t cause =
    (cause.0, (let x = t.due in let y = cause.1 in omega arith))

-- it stays while the other rings are taken from, and blocks are put
pub cause_stays : (sender : ℕ) (e : EngineOf) (a b c : RingEnds) (s : Stop) → GoOn b c →
    Cause sender e a b s → Cause sender e a c s
cause_stays sender e a b c Emptied k cause =
    rose_on (nones_of sender a) (nones_of sender b) (nones_of sender c) (nones_later sender b c k)
    cause
cause_stays sender e a b c Budget k cause = omega (arith, count_later sender b c k, cause)
cause_stays sender e a b c Held k cause =
    rose_on a.replies.fulls b.replies.fulls c.replies.fulls k.replies.fulls cause
cause_stays sender e a b c Unasked k cause =
    (cause.0, (let x = k.saver.taken in let y = cause.1 in omega arith))

pub held_by : (sender other : ℕ) (e : EngineOf) (a b : RingEnds) (s : Stop) → s ≡ Held →
    Cause other e a b s → Cause sender e a b Held
held_by sender other e a b s is cause = subst (λ t. Cause other e a b t) is cause

-- unless the budget is spent
pub cause_since : (sender : ℕ) (e m : EngineOf) (a b c : RingEnds) (s : Stop) → Takes e m a b →
    Cause sender m b c s → Cause sender e a c s
cause_since sender e m a b c s t cause = cause_within sender e m m a b c s t cause

pub block_cause_since : (next : EngineOf) (a b c : RingEnds) (s : Stop) → GoOn a b →
    BlockCause next b c s → BlockCause next a c s
block_cause_since next a b c Emptied k cause = cause
block_cause_since next a b c Budget k cause = omega (arith, k.blocks.sent, cause)
block_cause_since next a b c Held k cause =
    rose_since a.blocks.fulls b.blocks.fulls c.blocks.fulls k.blocks.fulls cause
block_cause_since next a b c Unasked k cause = cause

pub none_left : (e : EngineOf) → next_block e ≡ None → left e ≡ []
none_left e is = by_list (left e) is
  where
    by_list : (bs : List Block) → first_of bs ≡ None → bs ≡ []
    by_list [] is = refl
    by_list (b ∷ bs) is = absurd (cc)

pub none_due : (sender : ℕ) (e : EngineOf) (a : RingEnds) → due_target e ≡ None →
    length e.due + length a.saver.taken ≤ length a.saver.taken
none_due sender e a is = (let none = ap length (by_list e.due is) in omega arith)
  where
    by_list : (ss : List Save) → option_map target_of (first_of ss) ≡ None → ss ≡ []
    by_list [] is = refl
    by_list (s ∷ ss) is = absurd (cc)
