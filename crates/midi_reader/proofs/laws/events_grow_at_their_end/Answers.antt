-- The events behind some bytes, with one byte more at the end.
use Rattle.std.proofs.Common.{◌≡◌, ℕ, List, [], ◌∷◌, ◌++◌, option_to_list, append_assoc, sym, ap, ◌∙◌}
use Rattle.std.proofs.lemmas.List.{append-nil}
use Rattle.midi_reader.specs.declared.event.MidiEvent.{MidiEvent}
use Rattle.midi_reader.specs.Events.{event_at, events_after}
use Rattle.midi_reader.proofs.laws.events_grow_at_their_end.Goals as goal

events_after-push : (fed bytes : List ℕ) (byte : ℕ) →
    events_after fed (bytes ++ byte ∷ []) ≡ events_after fed bytes
    ++ option_to_list (event_at (fed ++ bytes) byte)
events_after-push fed [] byte = append-nil (option_to_list (event_at fed byte))
    ∙ ap (λ (all : List ℕ). option_to_list (event_at all byte)) (sym (append-nil fed))
events_after-push fed (next ∷ bytes) byte =
    let rest = events_after-push (fed ++ next ∷ []) bytes byte in
    let grouped : (fed ++ next ∷ []) ++ bytes ≡ fed ++ (next ∷ bytes) =
    append_assoc fed (next ∷ []) bytes in
    let told : List MidiEvent = option_to_list (event_at fed next) in
    ap (λ (events : List MidiEvent). told ++ events)
    (rest ∙ ap (λ (all : List ℕ). events_after (fed ++ next ∷ []) bytes
    ++ option_to_list (event_at all byte)) grouped)
    ∙ sym (append_assoc told (events_after (fed ++ next ∷ []) bytes)
    (option_to_list (event_at (fed ++ (next ∷ bytes)) byte)))

pub returns : goal.returns
returns c = λ fed byte. events_after-push [] fed byte
