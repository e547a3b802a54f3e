-- What bytes are heard as may be played, where the bindings are those of so many loops.
use Rattle.std.proofs.Common.{◌≡◌, ◌≤◌, ◌<◌, ℕ, ◌+◌, ◌*◌, ◌%◌, ◌/◌, Bool, true, false, List, [], ◌∷◌, ◌++◌, map, Option, Some, None, IsTrue, refl, sym, subst, arith}
use Rattle.std.specs.Prelude.{◌==◌, ◌||◌, if◌then◌else◌, reverse, IfSome}
use Rattle.std.specs.List.{AllByRecursion}
use Rattle.std.proofs.Math.Nat.{mod-lt}
use Rattle.std.proofs.lemmas.Bool.{ltb-true, eqb-false, eqb-true}
use Rattle.sl_commands.specs.declared.command.Command.{Command}
use Rattle.osc_paths.specs.declared.request.ReturnTo.{ReturnTo}
use Rattle.midi_reader.specs.declared.event.MidiEvent.{MidiEvent}
use Rattle.midi_reader.specs.declared.event.MidiEvent.TheVariants as events
use Rattle.midi_reader.specs.Bytes.{is_data, is_real_time, status_behind, data_behind, are_whole_groups}
use Rattle.midi_reader.specs.Events.{note_on, latest, event_of, event_under, is_told_at_once, event_at, IsEvent}
use Rattle.midi_bindings.specs.declared.binding.Binding.{Binding}
use Rattle.midi_bindings.specs.Lines.{is_binding}
use Rattle.midi_bindings.specs.Lookups.{looked_up}
use Rattle.midi_bindings.specs.Played.{MayBePlayed}
use Rattle.midi_bindings.proofs.SweepLemmas.{looked_up_may}
use Rattle.senders.specs.declared.accepted.Accepted.{Accepted}
use Rattle.senders.specs.declared.decision.Decision.{Decision}
use Rattle.senders.specs.Commands.{accepted, has_quit}
use Rattle.senders.specs.Tallies.{TallyOf}
use Rattle.senders.specs.Hearing.{Input, plays, pings, faulty, wrong, Heard, input_in, tally_after, tally_behind, after_command, is_used_up, Hears}
use Rattle.senders.specs.Senders.{bound_to, played_by, byte_inputs, bytes_inputs}
use Rattle.midi_serving.specs.Playing.{ArePlayed}

-- the event at a byte is one

latest_if : (is_it real : Bool) (byte : ℕ) (rest : List ℕ) → (is_it ≡ true → byte < 128) →
    latest rest < 128 →
    latest (if is_it then byte ∷ rest else (if real then rest else [])) < 128
latest_if true real byte rest below others = below refl
latest_if false true byte rest below others = others
latest_if false false byte rest below others = omega arith

latest_below : (before : List ℕ) → latest (data_behind before) < 128
latest_below [] = omega arith
latest_below (byte ∷ before) =
    latest_if (is_data byte) (is_real_time byte) byte (data_behind before)
    (ltb-true byte 128) (latest_below before)

above_zero : (n : ℕ) → (n == 0) ≡ false → 0 < n
above_zero n e = let other = eqb-false n 0 e in omega arith

note_if : (still : Bool) (channel note velocity : ℕ) → (still ≡ false → 0 < velocity) →
    channel < 16 → note < 128 → velocity < 128 →
    IsEvent (if still then events.NoteOff channel note else events.NoteOn channel note velocity)
note_if true channel note velocity some c n v = (c, n)
note_if false channel note velocity some c n v = (c, n, some refl, v)

event_if : (a b c d e f : Bool) (channel first second : ℕ) → channel < 16 → first < 128 →
    second < 128 → IsEvent (
    if a then events.NoteOff channel first
    else if b then note_on channel first second
    else if c then events.PolyPressure channel first second
    else if d then events.ControlChange channel first second
    else if e then events.ProgramChange channel second
    else if f then events.Pressure channel second
    else events.PitchBend channel (second * 128 + first))
event_if true b c d e f channel first second x y z = (x, y)
event_if false true c d e f channel first second x y z =
    note_if (second == 0) channel first second (above_zero second) x y z
event_if false false true d e f channel first second x y z = (x, y, z)
event_if false false false true e f channel first second x y z = (x, y, z)
event_if false false false false true f channel first second x y z = (x, z)
event_if false false false false false true channel first second x y z = (x, z)
event_if false false false false false false channel first second x y z = (x, omega arith)

event_is : (status : ℕ) (before : List ℕ) (byte : ℕ) → latest before < 128 → byte < 128 →
    IsEvent (event_of status before byte)
event_is status before byte first last =
    event_if (status / 16 == 8) (status / 16 == 9) (status / 16 == 10) (status / 16 == 11)
    (status / 16 == 12) (status / 16 == 13) (status % 16) (latest before) byte
    (mod-lt status (omega arith)) first last

whole_if : (whole : Bool) (event : MidiEvent) → IsEvent event →
    IfSome (if whole then Some event else None) IsEvent
whole_if true event is = is
whole_if false event is = tt

under_is : (status : Option ℕ) (before : List ℕ) (byte : ℕ) → latest before < 128 → byte < 128 →
    IfSome (event_under status before byte) IsEvent
under_is None before byte first last = tt
under_is (Some status) before byte first last =
    whole_if (are_whole_groups status (byte ∷ before)) (event_of status before byte)
    (event_is status before byte first last)

one_of : (a b c d : Bool) (X : Type 0) → (a ≡ true → X) → (b ≡ true → X) → (c ≡ true → X) →
    (d ≡ true → X) → (a || b || c || d) ≡ true → X
one_of true b c d X f g h k e = f refl
one_of false true c d X f g h k e = g refl
one_of false false true d X f g h k e = h refl
one_of false false false true X f g h k e = k refl
one_of false false false false X f g h k e = absurd (cc)

above : (n byte : ℕ) → 248 ≤ n → (byte == n) ≡ true → 248 ≤ byte
above n byte high e = let same = eqb-true byte n e in omega arith

real_above : (byte : ℕ) → is_told_at_once byte ≡ true → 248 ≤ byte
real_above byte e =
    one_of (byte == 248) (byte == 250) (byte == 251) (byte == 252) (248 ≤ byte)
    (above 248 byte (omega arith)) (above 250 byte (omega arith)) (above 251 byte (omega arith))
    (above 252 byte (omega arith)) e

real_if : (now : Bool) (byte : ℕ) → (now ≡ true → 248 ≤ byte) →
    IfSome (if now then Some (events.Real byte) else None) IsEvent
real_if true byte above = above refl
real_if false byte above = tt

behind_if : (is_it : Bool) (before : List ℕ) (byte : ℕ) → (is_it ≡ true → byte < 128) →
    IfSome (if is_it then event_under (status_behind before) (data_behind before) byte
    else (if is_told_at_once byte then Some (events.Real byte) else None)) IsEvent
behind_if true before byte below =
    under_is (status_behind before) (data_behind before) byte (latest_below before) (below refl)
behind_if false before byte below = real_if (is_told_at_once byte) byte (real_above byte)

event_at_is : (fed : List ℕ) (byte : ℕ) → IfSome (event_at fed byte) IsEvent
event_at_is fed byte = behind_if (is_data byte) (reverse fed) byte (ltb-true byte 128)

-- what is heard may be played

-- an input is no command, or one that may be played
abbrev MayPlay : ℕ → Input → Type 0
MayPlay loops (plays command answer) = MayBePlayed loops command
MayPlay loops (faulty fault) = Unit {0}
MayPlay loops (wrong fault) = Unit {0}
MayPlay loops (pings to) = Unit {0}

all_joined : (loops : ℕ) (xs ys : List Input) → AllByRecursion (MayPlay loops) xs →
    AllByRecursion (MayPlay loops) ys → AllByRecursion (MayPlay loops) (xs ++ ys)
all_joined loops [] ys p q = q
all_joined loops (x ∷ xs) ys p q = (p.0, all_joined loops xs ys p.1 q)

bound_may : (loops : ℕ) (found : Option Command) →
    ((command : Command) → found ≡ Some command → MayBePlayed loops command) →
    AllByRecursion (MayPlay loops) (bound_to found)
bound_may loops None each = tt
bound_may loops (Some command) each = (each command refl, tt)

played_may : (loops : ℕ) (bindings : List Binding) →
    AllByRecursion (λ binding. IsTrue (is_binding loops binding)) bindings →
    (event : Option MidiEvent) → IfSome event IsEvent →
    AllByRecursion (MayPlay loops) (played_by bindings event)
played_may loops bindings are None is = tt
played_may loops bindings are (Some event) is =
    bound_may loops (looked_up bindings event)
    (λ command gives. looked_up_may loops bindings event command are is gives)

bytes_may : (loops : ℕ) (bindings : List Binding) →
    AllByRecursion (λ binding. IsTrue (is_binding loops binding)) bindings →
    (fed bytes : List ℕ) → AllByRecursion (MayPlay loops) (bytes_inputs bindings fed bytes)
bytes_may loops bindings are fed [] = tt
bytes_may loops bindings are fed (byte ∷ bytes) =
    all_joined loops (byte_inputs bindings fed byte)
    (bytes_inputs bindings (fed ++ byte ∷ []) bytes)
    (played_may loops bindings are (event_at fed byte) (event_at_is fed byte))
    (bytes_may loops bindings are (fed ++ byte ∷ []) bytes)

-- so is what is accepted

push_may : (loops : ℕ) (xs : List Accepted) (c : Command) (a : Option ReturnTo) →
    ArePlayed loops xs → MayBePlayed loops c → ArePlayed loops (xs ++ accepted c a ∷ [])
push_may loops [] c a all one = (one, tt)
push_may loops (x ∷ xs) c a all one = (all.0, push_may loops xs c a all.1 one)

after_may : (loops : ℕ) (q u f : Bool) (c : Command) (a : Option ReturnTo) (t : TallyOf) →
    MayBePlayed loops c → ArePlayed loops t.accepted →
    ArePlayed loops (after_command q u f c a t).accepted
after_may loops true u f c a t one all = all
after_may loops false true f c a t one all = all
after_may loops false false true c a t one all = all
after_may loops false false false c a t one all = push_may loops t.accepted c a all one

on_may : (loops : ℕ) (full : Bool) (i : Input) (t : TallyOf) → MayPlay loops i →
    ArePlayed loops t.accepted → ArePlayed loops (tally_after full i t).accepted
on_may loops full (faulty fault) t one all = all
on_may loops full (wrong fault) t one all = all
on_may loops full (pings to) t one all = all
on_may loops full (plays c a) t one all =
    after_may loops (has_quit t.accepted) (is_used_up t) full c a t one all

behind_may : (loops : ℕ) (hs : List Heard) (t : TallyOf) →
    AllByRecursion (MayPlay loops) (map input_in hs) → ArePlayed loops t.accepted →
    ArePlayed loops (tally_behind hs t).accepted
behind_may loops [] t each all = all
behind_may loops (h ∷ hs) t each all =
    behind_may loops hs (tally_after h.full h.input t) each.1
    (on_may loops h.full h.input t each.0 all)

-- whatever bytes are heard
pub heard_may : (loops : ℕ) (bindings : List Binding) →
    AllByRecursion (λ binding. IsTrue (is_binding loops binding)) bindings →
    (before bytes : List ℕ) (capacity : ℕ) (t t' : TallyOf) (ds : List Decision) →
    Hears capacity (bytes_inputs bindings before bytes) t t' ds → ArePlayed loops t.accepted →
    ArePlayed loops t'.accepted
heard_may loops bindings are before bytes capacity t t' ds h all =
    subst (λ (u : TallyOf). ArePlayed loops u.accepted) (sym h.tally_is)
    (behind_may loops h.heard t
    (subst (AllByRecursion (MayPlay loops)) (sym h.inputs_are)
    (bytes_may loops bindings are before bytes)) all)
