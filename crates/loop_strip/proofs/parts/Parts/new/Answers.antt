use Rattle.std.proofs.Common.{◌≡◌, ◌∙◌, ℕ, ap, refl, [], false}
use Rattle.looper_rules.specs.Loop.{Loop, Deck, Controls}
use Rattle.looper_rules.specs.Run.{first_loop}
use Rattle.layer_memory.specs.Seen.{Held}
use Rattle.loop_strip.specs.declared.parts.Parts.{Parts}
use Rattle.loop_strip.specs.Parts.{controls_of, loop_of}
use Rattle.loop_strip.proofs.SavingLemmas.{new_whole}
use Rattle.loop_strip.proofs.parts.Parts.new.Goals as goal

pub returns-in-Ok-clause-whole : goal.returns-in-Ok-clause-whole
returns-in-Ok-clause-whole c =
    let s : Parts = record {
      deck = c.new-in-Ok.result;
      controls = c.of.result;
      refused =
          0;
      pinned = false;
      layers = c.in-Ok.layers;
    } in
    let is : loop_of s ≡ first_loop [] c.args.settings.now =
    ap (λ (d : Deck). let l : Loop ℕ =
    record {
      deck = d;
      controls = controls_of c.of.result;
      refused = 0;
      stack =
          c.in-Ok.layers.stack;
    } in l) c.new-in-Ok.ensures
    ∙ ap (λ (k : Controls). let l : Loop ℕ = record (first_loop [] c.args.settings.now)
    { controls = k; stack = c.in-Ok.layers.stack } in l) c.of.ensures
    ∙ ap (λ (h : Held). let l : Loop ℕ =
    record (first_loop [] c.args.settings.now) { stack = h.stack } in l) c.in-Ok.ensures
    in new_whole c.args.settings.now s c.args.chunks c.requires.settings is
    (ap (λ (h : Held). h.writing) c.in-Ok.ensures) (ap (λ (d : Deck). d.mode) c.new-in-Ok.ensures)
    refl (ap (λ (h : Held). h.stack) c.in-Ok.ensures)
