-- What is heard asks for no command but those that its sender may send.
-- "Senders" in docs/rules.md.
use Rattle.std.specs.Prelude.{ℕ, List, [], ◌∷◌}
use Rattle.senders.specs.Commands.{accepted, IsGood}
use Rattle.senders.specs.Hearing.{Input, plays}

-- the input is no command, or one that the sender may send
abbrev pub IsGoodInput : ℕ → ℕ → Input → Type 0
IsGoodInput sender loops (plays command answer) = IsGood sender loops (accepted command answer)
IsGoodInput sender loops _ = Unit {0}

-- each is
abbrev pub AreGoodInputs : ℕ → ℕ → List Input → Type 0
AreGoodInputs sender loops [] = Unit {0}
AreGoodInputs sender loops (i ∷ rest) = IsGoodInput sender loops i × AreGoodInputs sender loops rest
