use Rattle.std.proofs.Common.{ap, ◌∙◌, ◌||◌}
use Rattle.audio_ends.specs.Ends.{is_quit}
use Rattle.audio_ends.proofs.TurnLemmas.{takes_same, takes_command, take_room, take_clears}
use Rattle.live_audio.proofs.takes.give_one.Goals as goal

pub returns-in_default-clause-takes : goal.returns-in_default-clause-takes
returns-in_default-clause-takes g c =
    takes_same _ _ _ c.requires.may c.next_command.ensures.on c.in_default.ensures.none
    c.next_command.ensures.quit

pub take-ends-requires-clause-room : goal.take-ends-requires-clause-room
take-ends-requires-clause-room g c =
    take_room _ _ _ _ _ c.next_command.new.self c.requires.two c.requires.may c.in-Some.ensures.few
    c.in-Some.ensures.some

pub take-ends-requires-clause-clears : goal.take-ends-requires-clause-clears
take-ends-requires-clause-clears g c = take_clears _ _ _ c.requires.two

pub returns-clause-takes : goal.returns-clause-takes
returns-clause-takes g c =
    takes_command _ _ _ _ _ _ _ c.next_command.new.self c.requires.two c.requires.free
    c.requires.may c.next_command.ensures.on c.in-Some.ensures.few c.in-Some.ensures.some
    (c.noted-quit.ensures ∙ ap (λ q. q || is_quit c.in-Some.command) c.next_command.ensures.quit)
    c.take-ends.ensures.took c.take-ends.ensures.reply
