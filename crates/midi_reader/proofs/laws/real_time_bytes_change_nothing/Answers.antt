-- A real-time byte leaves the status in force and the data since it, wherever it stands.
use Rattle.std.proofs.Common.{◌≡◌, ℕ, List, [], ◌∷◌, ◌++◌, cond, IsTrue, Option, Some, None, reverse, append_assoc, sym, ap, ◌∙◌, arith}
use Rattle.std.proofs.lemmas.Bool.Decides.{nat_tests}
use Rattle.std.proofs.lemmas.List.{reverse-append}
use Rattle.midi_reader.specs.Bytes.{is_data, is_real_time, is_channel_status, keeps_status, status_behind, data_behind}
use Rattle.midi_reader.specs.Events.{event_behind}
use Rattle.midi_reader.proofs.laws.real_time_bytes_change_nothing.Goals as goal

same_status : (after before : List ℕ) (real : ℕ) → IsTrue (is_real_time real) →
    status_behind (after ++ (real ∷ before)) ≡ status_behind (after ++ before)
same_status [] before real told = grind (arith, nat_tests)
same_status (byte ∷ after) before real told =
    ap (λ (rest : Option ℕ). cond (keeps_status byte) rest
    (cond (is_channel_status byte) (Some byte) None)) (same_status after before real told)

same_data : (after before : List ℕ) (real : ℕ) → IsTrue (is_real_time real) →
    data_behind (after ++ (real ∷ before)) ≡ data_behind (after ++ before)
same_data [] before real told = grind (arith, nat_tests)
same_data (byte ∷ after) before real told =
    ap (λ (rest : List ℕ). cond (is_data byte) (byte ∷ rest) (cond (is_real_time byte) rest []))
    (same_data after before real told)

-- the latest bytes first, with one of them put between the others
turned : (fed bytes : List ℕ) (real : ℕ) →
    reverse (fed ++ (real ∷ bytes)) ≡ reverse bytes ++ (real ∷ reverse fed)
turned fed bytes real =
    reverse-append fed (real ∷ bytes)
    ∙ ap (λ (front : List ℕ). front ++ reverse fed) (reverse-append (real ∷ []) bytes)
    ∙ append_assoc (reverse bytes) (real ∷ []) (reverse fed)

-- an event needs the status in force and the data alone
same_event : (one other : List ℕ) (byte : ℕ) → status_behind one ≡ status_behind other →
    data_behind one ≡ data_behind other → event_behind one byte ≡ event_behind other byte
same_event one other byte status bytes = cc

pub returns : goal.returns
returns c = λ fed bytes real byte told.
    ap (λ (all : List ℕ). event_behind all byte) (turned fed bytes real)
    ∙ same_event (reverse bytes ++ (real ∷ reverse fed)) (reverse bytes ++ reverse fed) byte
    (same_status (reverse bytes) (reverse fed) real told)
    (same_data (reverse bytes) (reverse fed) real told)
    ∙ ap (λ (all : List ℕ). event_behind all byte) (sym (reverse-append fed bytes))
