-- What was accepted only grows, and a return address stays.
use Rattle.std.proofs.Common.{ℕ, Bool, true, false, List, [], ◌∷◌, Option, refl, sym, subst, append-nil}
use Rattle.sl_commands.specs.declared.command.Command.{Command}
use Rattle.osc_paths.specs.declared.request.ReturnTo.{ReturnTo}
use Rattle.senders.specs.declared.accepted.Accepted.{Accepted}
use Rattle.senders.specs.declared.decision.Decision.{Decision}
use Rattle.senders.specs.Commands.{accepted, has_quit}
use Rattle.senders.specs.Tallies.{TallyOf}
use Rattle.senders.specs.Hearing.{Input, plays, pings, faulty, wrong, Heard, tally_after, tally_behind, after_command, is_used_up, Hears}
use Rattle.senders.proofs.HearingLemmas.{Grew, grew_joined}

grew_none : (xs : List Accepted) → Grew xs xs
grew_none xs = record { more = []; is = sym (append-nil xs) }

grew_after : (q u f : Bool) (c : Command) (a : Option ReturnTo) (t : TallyOf) →
    Grew t.accepted (after_command q u f c a t).accepted
grew_after true u f c a t = grew_none t.accepted
grew_after false true f c a t = grew_none t.accepted
grew_after false false true c a t = grew_none t.accepted
grew_after false false false c a t = record { more = accepted c a ∷ []; is = refl }

grew_on : (full : Bool) (i : Input) (t : TallyOf) →
    Grew t.accepted (tally_after full i t).accepted
grew_on full (faulty fault) t = grew_none t.accepted
grew_on full (wrong fault) t = grew_none t.accepted
grew_on full (pings to) t = grew_none t.accepted
grew_on full (plays c a) t = grew_after (has_quit t.accepted) (is_used_up t) full c a t

grew_behind : (hs : List Heard) (t : TallyOf) → Grew t.accepted (tally_behind hs t).accepted
grew_behind [] t = grew_none t.accepted
grew_behind (h ∷ hs) t =
    let u : TallyOf = tally_after h.full h.input t in
    grew_joined t.accepted u.accepted (tally_behind hs u).accepted (grew_on h.full h.input t)
    (grew_behind hs u)

-- whatever is heard
pub hears_grew : (capacity : ℕ) (inputs : List Input) (t t' : TallyOf) (ds : List Decision) →
    Hears capacity inputs t t' ds → Grew t.accepted t'.accepted
hears_grew capacity inputs t t' ds h =
    subst (λ (u : TallyOf). Grew t.accepted u.accepted) (sym h.tally_is) (grew_behind h.heard t)

pub hears_none : (capacity : ℕ) (t : TallyOf) → Hears capacity [] t t []
hears_none capacity t =
    record { heard = []; inputs_are = refl; decided_is = refl; tally_is = refl; fulls = tt }
