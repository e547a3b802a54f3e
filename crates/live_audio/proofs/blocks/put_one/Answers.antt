use Rattle.std.proofs.Common.{sym, ◌∙◌, refl}
use Rattle.audio_ends.proofs.TurnLemmas.{stays_none, stays_same, stays_block, may_put, put_room, none_left}
use Rattle.live_audio.proofs.blocks.put_one.Goals as goal

pub returns-in_default-clause-stays : goal.returns-in_default-clause-stays
returns-in_default-clause-stays g c = stays_none _ _ c.requires.may

pub put_block-requires-clause-may : goal.put_block-requires-clause-may
put_block-requires-clause-may g c =
    may_put _ _ _ c.requires.may (sym c.next_block.ensures.value ∙ c.in-Some.is)

pub put_block-requires-clause-room : goal.put_block-requires-clause-room
put_block-requires-clause-room g c =
    put_room _ _ _ c.requires.may (sym c.next_block.ensures.value ∙ c.in-Some.is)

pub returns-then-not-put_block-clause-stays : goal.returns-then-not-put_block-clause-stays
returns-then-not-put_block-clause-stays g c =
    stays_same _ _ _ c.requires.may c.put_block.ensures.on (c.if-not-put_block.ensures.full refl)
    c.put_block.ensures.quit

pub returns-clause-stays : goal.returns-clause-stays
returns-clause-stays g c =
    stays_block _ _ _ _ _ c.requires.may c.put_block.ensures.on
    (sym c.next_block.ensures.value ∙ c.in-Some.is) c.block_sent.ensures.sent
    (c.if-not-put_block.ensures.ok refl) c.put_block.ensures.quit
