use Rattle.std.proofs.Common.{rules, ◌≡◌, ◌≤◌, ℕ, length, take, ap, ◌∙◌}
use Rattle.looper_rules.specs.Loop.{Loop, is_writing}
use Rattle.layer_memory.specs.Seen.{Held}
use Rattle.loop_strip.proofs.StretchLemmas.{whole_over}
use Rattle.loop_strip.proofs.RowLemmas.{did_row, heard_row, row_writing}
use Rattle.loop_strip.proofs.parts.Parts.write_row.Goals as goal

pub returns-clause-did : goal.returns-clause-did
returns-clause-did c =
    let le : c.write_span-done.result ≤ length c.args.input.now = search rules in
    did_row c.write_span-done.result c.args.mode c.args.input.now c.args.heard.now
    c.mix_row_in.new.next c.args.self.now c.go_row.new.self c.write_span-done.new.self
    c.args.pool.now c.write_span-done.new.pool c.requires.owns c.requires.is c.requires.row le
    c.requires.same_length c.mix_row_in.ensures.length c.requires.heard c.mix_row_in.ensures.value
    c.write_span-done.ensures.writes c.facts.ensures
    (ap (λ (h : Held). h.tape) c.go_row.ensures.layers) c.facts-2.ensures c.go_row.ensures.ok

pub returns-clause-heard : goal.returns-clause-heard
returns-clause-heard c =
    let le : c.write_span-done.result ≤ length c.args.input.now = search rules in
    heard_row c.write_span-done.result c.args.mode c.args.input.now c.args.heard.now
    c.mix_row_in.new.next c.args.self.now c.write_span-done.new.self c.args.pool.now
    c.write_span-done.new.pool c.requires.owns c.requires.is c.requires.row le
    c.requires.same_length c.mix_row_in.ensures.length c.requires.heard c.mix_row_in.ensures.value
    c.write_span-done.ensures.writes

pub returns-clause-whole : goal.returns-clause-whole
returns-clause-whole c =
    let mode : c.go_row.new.self.deck.mode ≡ c.args.mode =
    ap (λ (l : Loop ℕ). l.deck.mode) c.go_row.ensures.ok ∙ c.requires.is in
    let writing : c.go_row.new.self.layers.writing ≡ is_writing c.go_row.new.self.deck.mode =
    ap (λ (h : Held). h.writing) c.go_row.ensures.layers
    ∙ c.write_span-done.ensures.writes.writing
    ∙ row_writing c.args.mode _ mode c.requires.row.over in
    whole_over (take c.write_span-done.result c.args.input.now) c.args.self.now c.go_row.new.self
    c.args.pool.now c.write_span-done.new.pool c.requires.whole (returns-clause-did c)
    c.go_row.ensures.pinned writing
