-- A journal in which each sender's commands are ones that it may send is valid.
use Rattle.std.proofs.Common.{◌≡◌, ℕ, zero, suc, ◌+◌, ◌≤◌, Bool, true, false, ◌==◌, List, [], ◌∷◌, length, map, if◌then◌else◌, refl, ap, subst, zero-le, arith}
use Rattle.std.specs.List.{AllByRecursion}
use Rattle.std.proofs.lemmas.Bool.{and_from, ne_eqb}
use Rattle.sl_commands.specs.declared.Command.{Command}
use Rattle.sl_commands.specs.declared.Entry.{Entry}
use Rattle.sl_commands.specs.Commands.{is_allowed}
use Rattle.sl_commands.specs.Entries.{is_sender, is_valid, command_in, entries_of, commands_of}

-- a sender may send this command, where there are so many loops
pub record MaySend (sender loops : ℕ) (c : Command) : Type 0 where
  pub sends : is_sender sender c ≡ true
  pub allowed : is_allowed loops c ≡ true

-- these commands, with this one before them where it is the sender's
abbrev pub with_one : Bool → Command → List Command → List Command
with_one b c cs = if b then c ∷ cs else cs

pub commands_of-cons : (sender : ℕ) (e : Entry) (es : List Entry) →
    commands_of sender (e ∷ es) ≡ with_one (e.sender == sender) e.command (commands_of sender es)
commands_of-cons sender e es = by_test (e.sender == sender)
  where
    by_test : (b : Bool) →
        map command_in (if b then e ∷ entries_of sender es else entries_of sender es)
        ≡ with_one b e.command (commands_of sender es)
    by_test true = refl
    by_test false = refl

-- another sender's entry adds none
without : (b : Bool) (c : Command) (cs : List Command) → b ≡ false →
    length (with_one b c cs) ≡ length cs
without true c cs other = absurd (cc)
without false c cs other = refl

anothers : (s k : ℕ) (c : Command) (cs : List Command) → k ≤ 2 →
    length (with_one (suc (suc (suc s)) == k) c cs) ≡ length cs
anothers s k c cs below =
    without (suc (suc (suc s)) == k) c cs
    (ne_eqb (suc (suc (suc s))) k (λ is. absurd (omega arith)))

-- so many commands of the three senders are in a list with one more
few_more : (s : ℕ) (c : Command) (a b d : List Command) (n : ℕ) →
    length a + length b + length d ≤ n →
    length (with_one (s == 0) c a) + length (with_one (s == 1) c b)
    + length (with_one (s == 2) c d) ≤ suc n
few_more zero c a b d n within = omega arith
few_more (suc zero) c a b d n within = omega arith
few_more (suc (suc zero)) c a b d n within = omega arith
few_more (suc (suc (suc s))) c a b d n within =
    let x = anothers s 0 c a (omega arith) in
    let y = anothers s 1 c b (omega arith) in
    let z = anothers s 2 c d (omega arith) in
    omega arith

few : (es : List Entry) →
    length (commands_of 0 es) + length (commands_of 1 es) + length (commands_of 2 es) ≤ length es
few [] = zero-le
few (e ∷ es) =
    let a = ap length (commands_of-cons 0 e es) in
    let b = ap length (commands_of-cons 1 e es) in
    let d = ap length (commands_of-cons 2 e es) in
    let more = few_more e.sender e.command (commands_of 0 es) (commands_of 1 es)
    (commands_of 2 es) (length es) (few es) in
    omega arith

-- what holds of the first entry and of the others, where all entries are of the three senders
pub record Parted (loops s : ℕ) (c : Command) (a b d : List Command) (n : ℕ) : Type 0 where
  pub first : MaySend s loops c
  pub osc : AllByRecursion (MaySend 0 loops) a
  pub midi : AllByRecursion (MaySend 1 loops) b
  pub saver : AllByRecursion (MaySend 2 loops) d
  pub count : n ≡ length a + length b + length d

parted : (loops s : ℕ) (c : Command) (a b d : List Command) (n : ℕ) →
    length a + length b + length d ≤ n →
    suc n ≡ length (with_one (s == 0) c a) + length (with_one (s == 1) c b)
    + length (with_one (s == 2) c d) →
    AllByRecursion (MaySend 0 loops) (with_one (s == 0) c a) →
    AllByRecursion (MaySend 1 loops) (with_one (s == 1) c b) →
    AllByRecursion (MaySend 2 loops) (with_one (s == 2) c d) → Parted loops s c a b d n
parted loops zero c a b d n within count x y z =
    record { first = x.0; osc = x.1; midi = y; saver = z; count = omega arith }
parted loops (suc zero) c a b d n within count x y z =
    record { first = y.0; osc = x; midi = y.1; saver = z; count = omega arith }
parted loops (suc (suc zero)) c a b d n within count x y z =
    record { first = z.0; osc = x; midi = y; saver = z.1; count = omega arith }
parted loops (suc (suc (suc s))) c a b d n within count osc midi saver =
    let x = anothers s 0 c a (omega arith) in
    let y = anothers s 1 c b (omega arith) in
    let z = anothers s 2 c d (omega arith) in
    absurd (omega arith)

pub all_valid : (loops : ℕ) (es : List Entry) →
    length es
    ≡ length (commands_of 0 es) + length (commands_of 1 es) + length (commands_of 2 es) →
    AllByRecursion (MaySend 0 loops) (commands_of 0 es) →
    AllByRecursion (MaySend 1 loops) (commands_of 1 es) →
    AllByRecursion (MaySend 2 loops) (commands_of 2 es) →
    AllByRecursion (λ (e : Entry). is_valid loops e ≡ true) es
all_valid loops [] count osc midi saver = tt
all_valid loops (e ∷ es) count osc midi saver =
    let a = ap length (commands_of-cons 0 e es) in
    let b = ap length (commands_of-cons 1 e es) in
    let d = ap length (commands_of-cons 2 e es) in
    let p = parted loops e.sender e.command (commands_of 0 es) (commands_of 1 es)
    (commands_of 2 es) (length es) (few es) (omega arith)
    (subst (AllByRecursion (MaySend 0 loops)) (commands_of-cons 0 e es) osc)
    (subst (AllByRecursion (MaySend 1 loops)) (commands_of-cons 1 e es) midi)
    (subst (AllByRecursion (MaySend 2 loops)) (commands_of-cons 2 e es) saver) in (
      and_from (is_sender e.sender e.command) (is_allowed loops e.command) p.first.sends
          p.first.allowed,
      all_valid loops es p.count p.osc p.midi p.saver,
    )
