use Rattle.std.proofs.Common.{◌+◌, ◌<◌, ℕ, List, length, sym, ap₂, ◌∙◌, arith}
use Rattle.std.specs.String.{string_bytes}
use Rattle.command_words.proofs.WordListLemmas.{one_left, options_on}
use Rattle.command_words.proofs.options.options_of.Goals as goal

pub returns-then-at-words : goal.returns-then-at-words
returns-then-at-words g c =
    sym (one_left string_bytes g.O.Options.with_option c.args.words.now c.options.at
    c.options.options c.options-test.true c.if-at-words.true) ∙ c.options.invariant.0

pub options-preserved : goal.options-preserved
options-preserved g c =
    let inside : c.options.at + 1 < length c.args.words.now =
    omega (arith, c.options-test.true, c.if-at-words.false) in (
      options_on string_bytes g.O.Options.with_option c.args.words.now c.options.at
          c.options.options c.in_ok-options.options c.index-words-at.result
          c.index-words-at-in-options.result inside c.index-words-at.is
          c.index-words-at-in-options.is
          (c.in_ok-options.ensures
          ∙ ap₂ (λ (a b : List ℕ). g.O.Options.with_option a b c.options.options)
          c.as_str.ensures.value c.as_str-in-options.ensures.value) ∙ c.options.invariant.0,
      omega (arith, inside),
    )
