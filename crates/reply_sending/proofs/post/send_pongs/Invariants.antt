use Rattle.std.proofs.Common.{take}
use Rattle.reply_sending.specs.Posting.{PostedPongs}
use Rattle.reply_sending.proofs.post.send_pongs.Given as goal

-- the pings so far are answered
abbrev pub invariant-decisions : goal.invariant-decisions
invariant-decisions g l = PostedPongs (take l.place l.decisions) (g.L.Link.seen l.fn.link)
    (g.L.Link.seen l.link) l.fn.sender l.sender
