use Rattle.std.proofs.Common.{rules, ◌≡◌, false, nat_lt, refl}
use Rattle.sl_commands.specs.declared.Mode.TheVariants.{WaitStart}
use Rattle.looper_rules.specs.Starting.{starts_record}
use Rattle.loop_strip.specs.Strips.{reach_in}
use Rattle.loop_strip.specs.Parts.{loop_of, strip_of}
use Rattle.loop_strip.specs.declared.parts.Parts.{Parts}
use Rattle.loop_strip.proofs.LoopLemmas.{starts_record-mapped}
use Rattle.loop_strip.proofs.DidLemmas.{did_as, did_also}
use Rattle.loop_strip.proofs.OpeningLemmas.{no_threshold}
use Rattle.loop_strip.proofs.parts.Parts.begin_record.Goals as goal

pub returns-then-self-gt0-clause-did : goal.returns-then-self-gt0-clause-did
returns-then-self-gt0-clause-did c =
    let s' : Parts = record c.args.self.now
    { deck = record c.args.self.now.deck { mode = WaitStart } } in
    let is : loop_of s' ≡ starts_record (reach_in (strip_of c.args.self.now) c.args.pool.now)
    (loop_of c.args.self.now) = search rules in
    did_as starts_record starts_record c.args.self.now s' c.args.pool.now c.requires.owns refl
    c.facts.ensures (λ f reach l. starts_record-mapped f reach l) is

pub returns-clause-did : goal.returns-clause-did
returns-clause-did c =
    let no : nat_lt 0 c.args.self.now.controls.rec_thresh ≡ false = search rules in
    did_also (no_threshold c.args.self.now c.args.pool.now no) c.open_record.ensures.did
