-- Turns may begin with a new engine between new rings.
use Rattle.std.proofs.Common.{◌≡◌, ◌≤◌, ◌*◌, ℕ, false, None, refl, sym, ap, subst, arith}
use Rattle.sl_base.specs.Limits.{max_quota}
use Rattle.looper_rules.specs.Reached.{IsBeginning}
use Rattle.engine_steps.specs.Engines.{EngineOf, Beginning, first_engine}
use Rattle.live_steps.specs.Passed.{none_passed}
use Rattle.live_rings.specs.declared.rings.Rings.{Rings}
use Rattle.live_rings.specs.Rings.{AreNew}
use Rattle.audio_ends.specs.declared.rings.RingEnds.{RingEnds}
use Rattle.audio_ends.specs.Ends.{passed, HasLimits, MayTurn}
use Rattle.audio_ends.proofs.DidLemmas.{may_begin}

-- the ends that audio owns of these rings, with nothing held
abbrev pub ends_of : Rings → RingEnds
ends_of r =
    record {
      osc = r.osc.taker;
      midi = r.midi.taker;
      saver = r.saver.taker;
      replies = r.replies.putter;
      blocks = r.blocks.putter;
      held = None;
      quit = false;
    }

none_before : (quota : ℕ) (r : Rings) → AreNew quota r → passed (ends_of r) ≡ none_passed
none_before quota r new =
    λ i. record {
      osc = new.osc.taken i;
      midi = new.midi.taken i;
      saver = new.saver.taken i;
      replies = new.replies.sent i;
      held = None;
      blocks = new.blocks.sent i;
    }

has_limits : (quota : ℕ) (r : Rings) → quota ≤ max_quota → AreNew quota r →
    HasLimits quota (ends_of r)
has_limits quota r few new =
    record {
      osc = (let l = new.osc.take_limit in omega arith);
      midi = (let l = new.midi.take_limit in omega arith);
      replies = (let l = new.replies.put_limit in omega arith);
      blocks = (let l = new.blocks.put_limit in omega arith);
      bound = (let l = new.blocks.put_bound in omega arith);
    }

pub may_turn : (b : Beginning) (quota : ℕ) (e : EngineOf) (r : Rings) (a : RingEnds) →
    IsBeginning b.settings b.chunks b.initial → b.quota ≡ quota → e ≡ first_engine b →
    quota ≤ max_quota → AreNew quota r → a ≡ ends_of r → MayTurn e a
may_turn b quota e r a begins same is few new are =
    subst (λ (x : EngineOf). MayTurn x a) (sym is)
    (subst (λ (x : RingEnds). MayTurn (first_engine b) x) (sym are)
    (may_begin b (ends_of r) begins (none_before quota r new) refl
    (subst (λ (n : ℕ). HasLimits n (ends_of r)) (sym same) (has_limits quota r few new))))
