use Rattle.std.proofs.Common.{ap, ◌∙◌}
use Rattle.audio_ends.specs.States.{state_of}
use Rattle.live_audio.proofs.WholeLemmas.{may_put_blocks, turned_over}
use Rattle.live_audio.proofs.turn.audio_turn_by.Goals as goal

pub put_blocks-blocks-requires : goal.put_blocks-blocks-requires
put_blocks-blocks-requires g c =
    record {
      may = may_put_blocks _ _ _ _ _ c.take_all-taken.ensures.takes.stays.may
          c.play-played.ensures.plays.engine c.play-played.ensures.rings;
    }

pub returns : goal.returns
returns g c =
    turned_over _ _ _ _ _ _ _ _ _ _ _ _ _ _ _ _ _ c.requires.may c.requires.ready
    c.take_all-taken.ensures.takes c.take_all-taken.ensures.causes c.play-played.ensures.plays
    c.play-played.ensures.channels c.play-played.ensures.most c.play-played.ensures.rings
    c.put_blocks-blocks.ensures.stays c.put_blocks-blocks.ensures.journal
    c.put_blocks-blocks.ensures.cause c.all_done-done.ensures
    (c.state_of-state.ensures
    ∙ ap (λ n. state_of c.play-played.result.halt c.play-played.result.answer n
    c.put_blocks-blocks.new.ends.quit c.all_done-done.result)
    c.len.ensures.value)
