-- A whole session is settled.
use Rattle.std.proofs.Common.{◌≡◌, ◌≤◌, ℕ, List, [], ◌++◌, length, Option, Some, refl, sym, ap, ◌∙◌, subst, append_assoc, append-nil, length-append, arith}
use Rattle.std.specs.Prelude.{option_to_list}
use Rattle.sl_commands.specs.declared.Block.{Block}
use Rattle.sl_commands.specs.declared.Command.{Command}
use Rattle.sl_commands.specs.declared.Reply.{Reply}
use Rattle.sl_ports.specs.declared.keepers.Keeper.{Ghosts as Keeper}
use Rattle.looper_rules.specs.SaveBlocks.{ends_in}
use Rattle.run_laws.proofs.Saves.Ends.{ends-append}
use Rattle.event_rings.specs.Ends.{BothEnds}
use Rattle.live_rings.specs.declared.meeting.MetRings.{MetRings}
use Rattle.engine_steps.specs.Engines.{EngineOf, left, waiting}
use Rattle.live_goes.specs.Going.{More, no_more, and_then, more_passed, put_held, Goes, Stands}
use Rattle.live_goes.proofs.GoLemmas.{held_joins}
use Rattle.live_goes.proofs.StandLemmas.{stands_on}
use Rattle.settling.specs.Settled.{UnsettledOf, LeftOf, SettledOf, IsLeft, passed_rings, MaySettle, Settled}
use Rattle.settling.specs.Standing.{MayCommand, StandsBehind, IsOwed, IsServed, MayRelease, MayTakeLeft}
use Rattle.settling.specs.Steps.{more_commands, more_outcomes, GoesBy, TookLeft, FedOf, feeding, Fed}
use Rattle.settling.proofs.TakeLemmas.{by_then, commands_stand, stands_behind}
use Rattle.settling.proofs.FeedLemmas.{fed_then, come_ends}

-- what passed and what is left are no more than were sent
left_few : {T : Type 0} (m : BothEnds T) (passed xs : List T) (n : ℕ) → passed ≡ m.taken →
    IsLeft m xs → length m.sent ≤ n → length (passed ++ xs) ≤ n
left_few m passed xs n is all few =
    subst (λ l. length l ≤ n) (all ∙ ap (λ l. l ++ xs) (sym is)) few

taken_few : {T : Type 0} (m : BothEnds T) (xs : List T) (n : ℕ) → IsLeft m xs →
    length m.sent ≤ n → length m.taken ≤ n
taken_few m xs n all few =
    let both = ap length all ∙ length-append m.taken xs in omega arith

module _ (e : EngineOf) (osc midi : BothEnds Command) (saver : BothEnds ℕ) (outcome : Option ℕ)
    (may : MayTakeLeft e osc midi saver outcome) where
  -- behind the commands of OSC those of MIDI may be taken
  pub left_midi : (cs : List Command) (e1 : EngineOf) (r1 : List Reply) → IsLeft osc cs →
      GoesBy (more_commands 0 cs) r1 e e1 → MayCommand 1 e1 midi
  left_midi cs e1 r1 all g =
      let quota = g.quota in
      let few = may.midi_few in
      record {
        passed = more_passed (record (more_commands 0 cs) { replies = r1 }) may.passed;
        stands = commands_stand 0 cs e e1 may.passed r1 (omega arith) may.stands
            (left_few osc may.passed.osc cs e.journal.quota may.osc_taken all may.osc_few) g;
        taken = append-nil may.passed.midi ∙ may.midi_taken;
        few = omega arith;
      }

  -- behind them the engine stands behind the outcomes that were taken
  both_taken : (cs ds : List Command) (e1 e2 : EngineOf) (r1 r2 : List Reply) → IsLeft osc cs →
      IsLeft midi ds → GoesBy (more_commands 0 cs) r1 e e1 →
      GoesBy (more_commands 1 ds) r2 e1 e2 → StandsBehind e2 saver.taken may.passed.blocks
  unfolding left_midi
  both_taken cs ds e1 e2 r1 r2 all both g h =
      let m = left_midi cs e1 r1 all g in
      record {
        passed = more_passed (record (more_commands 1 ds) { replies = r2 }) m.passed;
        stands = commands_stand 1 ds e1 e2 m.passed r2 (omega arith) m.stands
            (left_few midi m.passed.midi ds e1.journal.quota m.taken both m.few) h;
        saver = append-nil (may.passed.saver ++ []) ∙ append-nil may.passed.saver ∙ may.saver_taken;
        blocks_are = append-nil (may.passed.blocks ++ []) ∙ append-nil may.passed.blocks;
      }

  -- outcomes may be taken
  pub left_outcomes : (cs ds : List Command) (e1 e2 : EngineOf) (r1 r2 : List Reply) →
      IsLeft osc cs → IsLeft midi ds → GoesBy (more_commands 0 cs) r1 e e1 →
      GoesBy (more_commands 1 ds) r2 e1 e2 → MayRelease e2 saver
  left_outcomes cs ds e1 e2 r1 r2 all both g h =
      let ends = may.ends in
      record {
        blocks = may.passed.blocks;
        stands = both_taken cs ds e1 e2 r1 r2 all both g h;
        few = omega arith;
      }

  -- and the one that is held
  pub left_held : (cs ds : List Command) (os : List ℕ) (e1 e2 e3 : EngineOf)
      (r1 r2 r3 : List Reply) → IsLeft osc cs → IsLeft midi ds → IsLeft saver os →
      GoesBy (more_commands 0 cs) r1 e e1 → GoesBy (more_commands 1 ds) r2 e1 e2 →
      GoesBy (more_outcomes os) r3 e2 e3 → (o : ℕ) → outcome ≡ Some o → IsOwed e3
  left_held cs ds os e1 e2 e3 r1 r2 r3 all both outs g h i o is =
      let ends = may.ends in
      let one = ap (λ x. length (option_to_list x)) is in
      let sent = ap length outs in
      let same = ap ends_in (append-nil may.passed.blocks) in
      record {
        outcomes = saver.taken ++ os;
        blocks = may.passed.blocks ++ [];
        stands = stands_behind e2 e3 saver.taken os may.passed.blocks [] r3
            (both_taken cs ds e1 e2 r1 r2 all both g h) i;
        more = omega arith;
      }

  -- all that was left is taken
  pub took_left : (cs ds : List Command) (os : List ℕ) (e1 e2 e3 e4 : EngineOf)
      (r1 r2 r3 r4 : List Reply) → IsLeft osc cs → IsLeft midi ds → IsLeft saver os →
      GoesBy (more_commands 0 cs) r1 e e1 → GoesBy (more_commands 1 ds) r2 e1 e2 →
      GoesBy (more_outcomes os) r3 e2 e3 →
      GoesBy (more_outcomes (option_to_list outcome)) r4 e3 e4 →
      TookLeft e e4 osc midi saver outcome ((r1 ++ r2) ++ (r3 ++ r4))
  took_left cs ds os e1 e2 e3 e4 r1 r2 r3 r4 all both outs g h i j =
      let hs = option_to_list outcome in
      let commands = by_then e e1 e2 (more_commands 0 cs) (more_commands 1 ds) r1 r2 g h in
      let outcomes = by_then e2 e3 e4 (more_outcomes os) (more_outcomes hs) r3 r4 i j in
      record {
        osc_left = cs;
        midi_left = ds;
        releases_left = os;
        osc_are = all;
        midi_are = both;
        releases_are = outs;
        goes = subst (Goes e e4)
            (λ k. record {
              osc = (append-nil (cs ++ []) ∙ append-nil cs) k;
              midi = append-nil ds k;
              saver = os ++ hs;
              replies = (r1 ++ r2) ++ (r3 ++ r4);
              blocks = [];
            })
            (by_then e e2 e4 (and_then (more_commands 0 cs) (more_commands 1 ds))
            (and_then (more_outcomes os) (more_outcomes hs)) (r1 ++ r2) (r3 ++ r4) commands
            outcomes);
      }

module _ {P : Type 0} (s : UnsettledOf P) (m : MetRings) (may : MaySettle s m) where
  -- the engine stands behind what passed, with the held reply among those that were put
  stands_first : Stands s.engine (put_held (passed_rings m s.reply))
  stands_first =
      let x = may.step in
      record {
        step = (
          x.0,
          x.1,
          x.2,
          held_joins s.engine (passed_rings m s.reply) x.0 x.1 x.2 x.3,
        );
        free = refl;
        osc = taken_few m.osc may.rings.osc s.engine.journal.quota may.left.osc may.osc;
        midi = taken_few m.midi may.rings.midi s.engine.journal.quota may.left.midi may.midi;
      }

  -- what is left may be taken
  pub may_take : MayTakeLeft s.engine m.osc m.midi m.saver s.outcome
  may_take =
      let each = may.each in
      let ended = come_ends s.saving m.blocks.taken may.saves may.come in
      let sent = ap ends_in may.left.blocks ∙ ends-append m.blocks.taken may.rings.blocks in
      record {
        passed = put_held (passed_rings m s.reply);
        stands = stands_first;
        osc_taken = refl;
        midi_taken = refl;
        saver_taken = refl;
        osc_few = may.osc;
        midi_few = may.midi;
        ends = omega arith;
        outcome_is = may.outcome;
      }

  -- behind it the saver is served
  pub may_feed : (e : EngineOf) (rs : List Reply) →
      (took : TookLeft s.engine e m.osc m.midi m.saver s.outcome rs) →
      IsServed e s.saving m.blocks.taken m.blocks.sent
  may_feed e rs took =
      let p = put_held (passed_rings m s.reply) in
      let hs = option_to_list s.outcome in
      let more : More = record no_more {
        osc = took.osc_left;
        midi = took.midi_left;
        saver = took.releases_left ++ hs;
        replies = rs;
      } in
      let each = may.each in
      let ended = come_ends s.saving m.blocks.taken may.saves may.come in
      let sent = ap length took.releases_are ∙ length-append m.saver.taken took.releases_left in
      let outs = length-append m.saver.taken (took.releases_left ++ hs) in
      let held = length-append took.releases_left hs in
      record {
        outcomes = m.saver.taken ++ (took.releases_left ++ hs);
        stands = record {
          passed = more_passed more p;
          stands = stands_on s.engine e p more stands_first took.goes
              (left_few m.osc m.osc.taken took.osc_left s.engine.journal.quota refl took.osc_are
              may.osc)
              (left_few m.midi m.midi.taken took.midi_left s.engine.journal.quota refl
              took.midi_are may.midi);
          saver = refl;
          blocks_are = append-nil m.blocks.sent;
        };
        each = omega arith;
        saves = may.saves;
        come = may.come;
      }

-- the session is settled
pub settled_from : {P : Type 0} (k : Keeper P) (rate : ℕ) (s : UnsettledOf P) (rest : LeftOf)
    (e : EngineOf) (r1 r2 r3 : List Reply) (u : FedOf P) (v : SettledOf P) (given : List Block) →
    GoesBy (record no_more {
      osc = rest.osc;
      midi = rest.midi;
      saver = rest.releases ++ option_to_list s.outcome;
    }) r1 s.engine e →
    Fed k rate rest.blocks [] r2 (feeding e s.saving s.keeper) u →
    Fed k rate given given r3 u (feeding v.engine v.saving v.keeper) →
    v.told ≡ s.told ++ (rest.replies ++ (option_to_list s.reply ++ (r1 ++ (r2 ++ r3)))) →
    left v.engine ≡ [] → waiting v.engine ≡ [] → Settled k rate s rest v
settled_from k rate s rest e r1 r2 r3 u v given took fed last told none answered =
    let at = feeding e s.saving s.keeper in
    let all = fed_then k rate rest.blocks given [] given r2 r3 at u
    (feeding v.engine v.saving v.keeper) fed last in
    let hs = option_to_list s.outcome in
    record {
      blocks = given;
      outcomes = all.outcomes;
      replies = r1 ++ (r2 ++ r3);
      goes = subst (Goes s.engine v.engine)
          (λ i. record {
            osc = append-nil rest.osc i;
            midi = append-nil rest.midi i;
            saver = append_assoc rest.releases hs all.outcomes i;
            replies = r1 ++ (r2 ++ r3);
            blocks = given;
          })
          (by_then s.engine e v.engine
          (record no_more { osc = rest.osc; midi = rest.midi; saver = rest.releases ++ hs })
          (record no_more { saver = all.outcomes; blocks = given }) r1 (r2 ++ r3) took all.goes);
      keeps = all.keeps;
      told = told;
      none_left = none;
      all_answered = answered;
    }
