-- Paths that are read are in the table, and paths of the table are read.
use Rattle.std.proofs.Common.{◌≡◌, ◌⊎◌, ℕ, ◌≤◌, ◌<◌, ◌^◌, Bool, true, false, cond, eqb, ltb, List, ◌∷◌, ◌++◌, take, drop, Option, Some, None, refl, sym, ap, subst, ◌∙◌, append_assoc, arith, lit<, inl, inr, bytes_eq}
use Rattle.std.specs.Prelude.{codes, option_map}
use Rattle.std.specs.Fmt.{decimal, signed_decimal}
use Rattle.std.proofs.lemmas.Bool.{ltb-true, lt-ltb}
use Rattle.std.proofs.lemmas.Fmt.{decimal_digit}
use Rattle.std.proofs.lemmas.Bool.Decides.{nat_tests}
use Rattle.std.proofs.lemmas.List.{take-append-drop}
use Rattle.std.proofs.lemmas.Slice.Eq.{bytes_eq-Decides}
use Rattle.sl_commands.specs.declared.command.Target.{Target}
use Rattle.sl_commands.specs.declared.command.Target.TheVariants.{One, All, Selected}
use Rattle.sl_commands.specs.Commands.{target_number, is_target, is_single_target}
use Rattle.osc_paths.specs.declared.path.Path.{Path}
use Rattle.osc_paths.specs.declared.path.Path.TheVariants.{Down, Up, Hit, Set, Get, SaveLoop, SetGlobal, GetGlobal, SaveSession, Ping, Quit}
use Rattle.osc_paths.specs.Texts.{cut_at, number_up_to, ◌>>=◌}
use Rattle.osc_paths.specs.Paths.{path_row, is_open, place_of, address_of, IsPath, target_in, loop_path, looper_path, path_behind, any_path, path_in}
use Rattle.osc_paths.proofs.TextLemmas.{some_is, bind_some, guard_some, number_takes, number_again, lacks, cut_found, cut_there, decimal_lacks, some_digit}

-- the bytes that a test compared
same_bytes : (bytes text : List ℕ) → bytes_eq bytes text ≡ true → bytes ≡ text
same_bytes bytes text seen = (bytes_eq-Decides bytes text).0 seen

-- targets
all_is : signed_decimal (target_number All) ≡ codes "-1"
all_is = ap (λ (digits : List ℕ). 45 ∷ digits) (decimal_digit 1 (lit< tt))

selected_is : signed_decimal (target_number Selected) ≡ codes "-3"
selected_is = ap (λ (digits : List ℕ). 45 ∷ digits) (decimal_digit 3 (lit< tt))

number_of_one : (read : Option ℕ) (target : Target) → option_map One read ≡ Some target → (n : ℕ)
    × (read ≡ Some n) × (One n ≡ target)
number_of_one (Some n) target same = (n, refl, some_is (One n) target same)
number_of_one None target same = absurd cc

target_takes : (bytes : List ℕ) (target : Target) → target_in bytes ≡ Some target →
    bytes ≡ signed_decimal (target_number target)
target_takes bytes target same =
    elim (bytes_eq bytes (codes "-1")) as (λ b. bytes_eq bytes (codes "-1") ≡ b →
    cond b (Some All) (cond (bytes_eq bytes (codes "-3")) (Some Selected)
    (option_map One (number_up_to 255 bytes))) ≡ Some target →
    bytes ≡ signed_decimal (target_number target)) [
      | true ↦ λ all read. subst (λ (t : Target). bytes ≡ signed_decimal (target_number t))
          (some_is All target read) (same_bytes bytes (codes "-1") all ∙ sym all_is)
      | false ↦ λ other rest.
          elim (bytes_eq bytes (codes "-3")) as (λ b. bytes_eq bytes (codes "-3") ≡ b →
          cond b (Some Selected) (option_map One (number_up_to 255 bytes)) ≡ Some target →
          bytes ≡ signed_decimal (target_number target)) [
            | true ↦ λ selected read.
                subst (λ (t : Target). bytes ≡ signed_decimal (target_number t))
                (some_is Selected target read)
                (same_bytes bytes (codes "-3") selected ∙ sym selected_is)
            | false ↦ λ neither read.
                let one = number_of_one (number_up_to 255 bytes) target read in
                subst (λ (t : Target). bytes ≡ signed_decimal (target_number t)) one.2
                ((number_takes 255 bytes one.0 one.1).0)
          ] refl rest
    ] refl same

no_minus : (bytes : List ℕ) (first : ℕ) (rest : List ℕ) → bytes ≡ first ∷ rest → 48 ≤ first →
    (bytes_eq bytes (codes "-1") ≡ false) × (bytes_eq bytes (codes "-3") ≡ false)
no_minus bytes first rest is low =
    let other : eqb first 45 ≡ false = grind (arith, nat_tests) in
    (rw (is, other) refl, rw (is, other) refl)

small : (i : ℕ) → ltb i 256 ≡ true → i ≤ 255
small i less = omega (arith, ltb-true i 256 less)

wide : (i : ℕ) → i ≤ 255 → i < 10 ^ 19
wide i low = omega arith

target_again : (target : Target) → is_target 256 target ≡ true →
    target_in (signed_decimal (target_number target)) ≡ Some target
target_again All good = ap target_in all_is
target_again Selected good = ap target_in selected_is
target_again (One i) good =
    let low : i ≤ 255 = small i good in
    let digit = some_digit i (wide i low) in
    let plain = no_minus (decimal i) digit.0 digit.1 digit.2 digit.3 in
    rw (plain.0, plain.1, number_again 255 i low (wide i low)) refl

target_lacks : (target : Target) → is_target 256 target ≡ true →
    lacks 47 (signed_decimal (target_number target)) ≡ true
target_lacks All good = ap (lacks 47) all_is
target_lacks Selected good = ap (lacks 47) selected_is
target_lacks (One i) good = decimal_lacks 47 i (inl (lit< tt)) (wide i (small i good))

small_target : (loops : ℕ) (target : Target) → loops ≤ 256 → is_target loops target ≡ true →
    is_target 256 target ≡ true
small_target loops All few good = refl
small_target loops Selected few good = refl
small_target loops (One i) few good = lt-ltb i 256 (omega (arith, ltb-true i loops good))

single_is_target : (loops : ℕ) (target : Target) → is_single_target loops target ≡ true →
    is_target loops target ≡ true
single_is_target loops All good = absurd cc
single_is_target loops Selected good = refl
single_is_target loops (One i) good = good

-- a choice that was made, or another behind it
chosen : {A : Type 0} (b : Bool) (x : A) (next : Option A) (y : A) → cond b (Some x) next ≡ Some y →
    ((b ≡ true) × (x ≡ y)) ⊎ (next ≡ Some y)
chosen true x next y same = inl (refl, some_is x y same)
chosen false x next y same = inr same

-- the path has this row
IsOf : Target → List ℕ → Path → Type 0
IsOf target word path = ((path_row path).target ≡ Some target) × ((path_row path).word ≡ word)

of_word : (target : Target) (word text : List ℕ) (made path : Path) → bytes_eq word text ≡ true →
    made ≡ path → IsOf target text made → IsOf target word path
unfolding IsOf
of_word target word text made path seen same is =
    subst (λ (p : Path). ((path_row p).target ≡ Some target) × ((path_row p).word ≡ word)) same
    (is.0, is.1 ∙ sym (same_bytes word text seen))

loop_takes : (target : Target) (word : List ℕ) (path : Path) → loop_path target word ≡ Some path →
    IsOf target word path
unfolding IsOf
loop_takes target word path same =
    elim (chosen (bytes_eq word (codes "down")) (Down target) _ path same) [
      | inl is ↦ of_word target word (codes "down") (Down target) path is.0 is.1 (refl, refl)
      | inr rest ↦ elim (chosen (bytes_eq word (codes "up")) (Up target) _ path rest) [
        | inl is ↦ of_word target word (codes "up") (Up target) path is.0 is.1 (refl, refl)
        | inr rest ↦ elim (chosen (bytes_eq word (codes "hit")) (Hit target) _ path rest) [
          | inl is ↦ of_word target word (codes "hit") (Hit target) path is.0 is.1 (refl, refl)
          | inr rest ↦ elim (chosen (bytes_eq word (codes "set")) (Set target) _ path rest) [
            | inl is ↦ of_word target word (codes "set") (Set target) path is.0 is.1 (refl, refl)
            | inr rest ↦ elim (chosen (bytes_eq word (codes "get")) (Get target) _ path rest) [
              | inl is ↦ of_word target word (codes "get") (Get target) path is.0 is.1 (refl, refl)
              | inr rest ↦ elim (chosen (bytes_eq word (codes "save_loop")) (SaveLoop target) None
                  path rest) [
                    | inl is
                        ↦ of_word target word (codes "save_loop") (SaveLoop target) path is.0 is.1
                        (refl, refl)
                    | inr none ↦ absurd cc
                  ]
            ]
          ]
        ]
      ]
    ]

of_looper : (address text : List ℕ) (made path : Path) → bytes_eq address text ≡ true →
    made ≡ path → text ≡ address_of made → address ≡ address_of path
of_looper address text made path seen same is =
    same_bytes address text seen ∙ is ∙ ap address_of same

looper_takes : (address : List ℕ) (path : Path) → looper_path address ≡ Some path →
    address ≡ address_of path
looper_takes address path same =
    elim (chosen (bytes_eq address (codes "/set")) SetGlobal _ path same) [
      | inl is ↦ of_looper address (codes "/set") SetGlobal path is.0 is.1 refl
      | inr rest ↦ elim (chosen (bytes_eq address (codes "/get")) GetGlobal _ path rest) [
        | inl is ↦ of_looper address (codes "/get") GetGlobal path is.0 is.1 refl
        | inr rest ↦ elim (chosen (bytes_eq address (codes "/save_session")) SaveSession _ path
            rest) [
              | inl is ↦ of_looper address (codes "/save_session") SaveSession path is.0 is.1 refl
              | inr rest ↦ elim (chosen (bytes_eq address (codes "/ping")) Ping _ path rest) [
                | inl is ↦ of_looper address (codes "/ping") Ping path is.0 is.1 refl
                | inr rest ↦ elim (chosen (bytes_eq address (codes "/quit")) Quit None path rest) [
                  | inl is ↦ of_looper address (codes "/quit") Quit path is.0 is.1 refl
                  | inr none ↦ absurd cc
                ]
              ]
            ]
      ]
    ]

behind_takes : (bytes : List ℕ) (path : Path) → path_behind bytes ≡ Some path →
    codes "/sl/" ++ bytes ≡ address_of path
unfolding path_behind IsOf
behind_takes bytes path same =
    let cut = bind_some (cut_at 47 bytes)
    (λ parts. target_in parts.0 >>= λ target. loop_path target parts.1) path same in
    let target = bind_some (target_in cut.0.0) (λ target. loop_path target cut.0.1) path cut.2 in
    let row = loop_takes target.0 cut.0.1 path target.2 in
    let parts : bytes ≡ signed_decimal (target_number target.0) ++ (47 ∷ cut.0.1) =
    (cut_found 47 bytes cut.0 cut.1).1 ∙ ap (λ (front : List ℕ). front ++ (47 ∷ cut.0.1))
    (target_takes cut.0.0 target.0 target.1) in
    ap (λ (b : List ℕ). codes "/sl/" ++ b) parts
    ∙ sym (append_assoc (codes "/sl/") (signed_decimal (target_number target.0)) (47 ∷ cut.0.1))
    ∙ sym (ap (λ (t : Option Target). place_of t ++ (47 ∷ (path_row path).word)) row.0
    ∙ ap (λ (w : List ℕ). place_of (Some target.0) ++ (47 ∷ w)) row.1)

any_takes : (address : List ℕ) (path : Path) → any_path address ≡ Some path →
    address ≡ address_of path
any_takes address path same =
    elim (bytes_eq (codes "/sl/") (take 4 address)) as
    (λ b. bytes_eq (codes "/sl/") (take 4 address) ≡ b → cond b (path_behind (drop 4 address))
    (looper_path address) ≡ Some path → address ≡ address_of path) [
      | true ↦ λ headed read.
          sym (take-append-drop 4 address) ∙ ap (λ (front : List ℕ). front ++ drop 4 address)
          (sym (same_bytes (codes "/sl/") (take 4 address) headed))
          ∙ behind_takes (drop 4 address) path read
      | false ↦ λ other read. looper_takes address path read
    ] refl same

pub path_takes : (loops : ℕ) (address : List ℕ) (path : Path) → path_in loops address ≡ Some path →
    IsPath loops path address
path_takes loops address path same =
    let any = bind_some (any_path address) (λ p. cond (is_open loops p) (Some p) None) path same in
    let there = guard_some (is_open loops any.0) (Some any.0) path any.2 in
    let is : any.0 ≡ path = some_is any.0 path there.1 in
    record {
      there = ap (is_open loops) (sym is) ∙ there.0;
      spelled =
          any_takes address any.0 any.1 ∙ ap address_of is;
    }

behind_again : (target : Target) (word : List ℕ) (path : Path) → is_target 256 target ≡ true →
    loop_path target word ≡ Some path →
    path_behind (signed_decimal (target_number target) ++ (47 ∷ word)) ≡ Some path
unfolding path_behind
behind_again target word path good is =
    rw (
      cut_there 47 (signed_decimal (target_number target)) word (target_lacks target good),
      target_again target good,
    ) is

any_again : (loops : ℕ) (path : Path) → loops ≤ 256 → is_open loops path ≡ true →
    any_path (address_of path) ≡ Some path
any_again loops (Down target) few good =
    behind_again target (codes "down") (Down target) (small_target loops target few good) refl
any_again loops (Up target) few good =
    behind_again target (codes "up") (Up target) (small_target loops target few good) refl
any_again loops (Hit target) few good =
    behind_again target (codes "hit") (Hit target) (small_target loops target few good) refl
any_again loops (Set target) few good =
    behind_again target (codes "set") (Set target) (small_target loops target few good) refl
any_again loops (Get target) few good = behind_again target (codes "get") (Get target)
    (small_target loops target few (single_is_target loops target good)) refl
any_again loops (SaveLoop target) few good = behind_again target (codes "save_loop")
    (SaveLoop target) (small_target loops target few (single_is_target loops target good)) refl
any_again loops SetGlobal few good = refl
any_again loops GetGlobal few good = refl
any_again loops SaveSession few good = refl
any_again loops Ping few good = refl
any_again loops Quit few good = refl

pub path_again : (loops : ℕ) (address : List ℕ) (path : Path) → loops ≤ 256 →
    IsPath loops path address → path_in loops address ≡ Some path
path_again loops address path few is =
    ap (path_in loops) is.spelled ∙ rw (any_again loops path few is.there, is.there) refl
