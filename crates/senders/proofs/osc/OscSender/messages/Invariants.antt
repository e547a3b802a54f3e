use Rattle.std.proofs.Common.{◌≡◌, ◌≤◌, ◌<◌, [], ◌∷◌, length, map, take}
use Rattle.std.specs.Vec.{vec_capacity, vec_len}
use Rattle.senders.specs.Hearing.{message_input, Hears}
use Rattle.senders.specs.Senders.{StaysSender}
use Rattle.senders.proofs.osc.OscSender.messages.Given as goal

-- the messages so far were heard, and there is room for the other decisions
abbrev pub invariant-messages : goal.invariant-messages
invariant-messages g l = StaysSender l.fn.self l.self
    × Hears l.fn.self.ring.capacity (map (message_input l.fn.self.loops l.from) (take l.place
    l.messages)) l.fn.self.account.tally l.self.account.tally l.decisions.items
    × (length l.messages ≤ vec_capacity l.decisions)
    × (vec_len l.decisions ≡ l.place)
