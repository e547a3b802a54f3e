-- What is told of numbers.
use Rattle.std.proofs.Common.{◌≡◌, ℕ, ◌+◌, List, [], ◌∷◌, ◌++◌, length, codes, refl, ap, ap₂, ◌∙◌}
use Rattle.std.specs.Fmt.{decimal}
use Rattle.std.specs.Prelude.{sum_by}
use Rattle.sl_commands.specs.declared.StripSettings.{StripSettings}
use Rattle.looper_cli.specs.Console.{loop_line, loop_lines_then, length_in, strips_text}
use Rattle.console_lines.specs.Statuses.{status_line}
use Rattle.console_lines.specs.declared.status.Status.TheVariants.{Done}
use Rattle.std.proofs.lemmas.List.{append_assoc}

-- the lines of a session's loops, and what follows them
lines_then_rest : (index : ℕ) (ss : List StripSettings) (rest : List ℕ) →
    loop_lines_then index ss [] ++ rest ≡ loop_lines_then index ss rest
lines_then_rest index [] rest = refl
lines_then_rest index (s ∷ ss) rest =
    append_assoc (loop_line index s) (loop_lines_then (index + 1) ss []) rest
    ∙ ap (λ (l : List ℕ). loop_line index s ++ l) (lines_then_rest (index + 1) ss rest)

-- the first line, the lines of loops and the status are the text of a session
pub session_told :
    (ss : List StripSettings) (loops frames : ℕ) (first second whole status : List ℕ) →
    loops ≡ length ss → frames ≡ sum_by length_in ss →
    first ≡ codes "session loops "
    ++ (decimal loops ++ (codes " frames " ++ (decimal frames ++ (10 ∷ [])))) →
    second ≡ first ++ loop_lines_then 0 ss [] →
    whole ≡ second ++ status → status ≡ status_line Done → whole ≡ strips_text ss
session_told ss loops frames first second whole status loops_are frames_are first_is second_is
    whole_is status_is =
    let head : List ℕ = codes "session loops "
    ++ (decimal loops ++ (codes " frames " ++ (decimal frames ++ (10 ∷ [])))) in
    let lines = loop_lines_then 0 ss [] in
    whole_is
    ∙ ap₂ (λ (a b : List ℕ). a ++ b)
    (second_is ∙ ap (λ (l : List ℕ). l ++ lines) first_is) status_is
    ∙ append_assoc head lines (status_line Done)
    ∙ ap (λ (l : List ℕ). head ++ l) (lines_then_rest 0 ss (status_line Done))
    ∙ told (loop_lines_then 0 ss (status_line Done))
  where
    told : (rest : List ℕ) →
        (codes "session loops "
        ++ (decimal loops ++ (codes " frames " ++ (decimal frames ++ (10 ∷ []))))) ++ rest
        ≡ codes "session loops "
        ++ (decimal (length ss)
        ++ (codes " frames " ++ (decimal (sum_by length_in ss) ++ (10 ∷ rest))))
    told rest =
        append_assoc (codes "session loops ")
        (decimal loops ++ (codes " frames " ++ (decimal frames ++ (10 ∷ [])))) rest
        ∙ ap (λ (l : List ℕ). codes "session loops " ++ l)
        (append_assoc (decimal loops) (codes " frames " ++ (decimal frames ++ (10 ∷ []))) rest
        ∙ ap (λ (l : List ℕ). decimal loops ++ l)
        (append_assoc (codes " frames ") (decimal frames ++ (10 ∷ [])) rest
        ∙ ap (λ (l : List ℕ). codes " frames " ++ l) (append_assoc (decimal frames) (10 ∷ []) rest))
        ∙ ap₂ (λ (m n : ℕ). decimal m ++ (codes " frames " ++ (decimal n ++ (10 ∷ rest)))) loops_are
        frames_are)

-- three parts behind a text
pub three_parts : (text first second third a b c : List ℕ) → first ≡ text ++ a →
    second ≡ first ++ b → third ≡ second ++ c → third ≡ text ++ (a ++ (b ++ c))
three_parts text first second third a b c first_is second_is third_is =
    third_is ∙ ap (λ (l : List ℕ). l ++ c) (second_is ∙ ap (λ (l : List ℕ). l ++ b) first_is)
    ∙ ap (λ (l : List ℕ). l ++ c) (append_assoc text a b)
    ∙ append_assoc text (a ++ b) c ∙ ap (λ (l : List ℕ). text ++ l) (append_assoc a b c)
