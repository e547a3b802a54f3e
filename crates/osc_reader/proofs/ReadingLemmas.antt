-- Reading one thing after another, as loops do.
use Rattle.std.proofs.Common.{◌≡◌, ℕ, suc, ◌+◌, Bool, true, false, cond, List, [], ◌∷◌, ◌++◌, take, Result, Ok, Err, refl, sym, ap, ◌∙◌, append_assoc, arith, inl, inr}
use Rattle.std.proofs.lemmas.List.{append-nil}
use Rattle.std.specs.List.{list_all, prefix_len}
use Rattle.osc_reader.specs.declared.fault.PacketFault.{PacketFault}
use Rattle.osc_reader.specs.declared.message.Arg.{Arg}
use Rattle.osc_reader.specs.Places.{◌>>=◌, Fails}
use Rattle.osc_reader.specs.Reading.{arg_at, args_at}

-- the bytes before the first that fails a test pass it
pub all-before : (test : ℕ → Bool) (bytes : List ℕ) →
    list_all test (take (prefix_len test bytes) bytes) ≡ true
all-before test [] = refl
all-before test (byte ∷ bytes) =
    elim (test byte) as (λ passes. test byte ≡ passes →
    list_all test (take (cond passes (1 + prefix_len test bytes) 0) (byte ∷ bytes)) ≡ true) [
      | true ↦ λ passes. let more : 1 + prefix_len test bytes ≡ suc (prefix_len test bytes) =
          omega arith in rw (more, passes, all-before test bytes) refl
      | false ↦ λ fails. refl
    ] refl

-- what was read before, and what is still read
abbrev pub with_args : List Arg → Result (List Arg × List ℕ) PacketFault →
    Result (List Arg × List ℕ) PacketFault
with_args front read = read >>= λ x. Ok (front ++ x.0, x.1)

regrouped : (front : List Arg) (arg : Arg) (read : Result (List Arg × List ℕ) PacketFault) →
    with_args front (read >>= λ x. Ok (arg ∷ x.0, x.1)) ≡ with_args (front ++ arg ∷ []) read
regrouped front arg (Ok x) = ap (λ (args : List Arg). Ok (args, x.1)) (simp append_assoc)
regrouped front arg (Err fault) = refl
