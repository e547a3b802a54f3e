-- Blocks are fed, and their outcomes taken.
use Rattle.std.proofs.Common.{◌≡◌, ◌+◌, ◌*◌, ℕ, true, List, [], ◌∷◌, ◌++◌, length, Option, Some, None, refl, sym, ap, ◌∙◌, subst, append-nil, length-append, arith}
use Rattle.std.specs.Prelude.{IsTrue}
use Rattle.std.proofs.lemmas.Bool.{and_from}
use Rattle.sl_commands.specs.declared.Block.{Block}
use Rattle.sl_commands.specs.declared.Block.TheVariants.{Head, Part, End}
use Rattle.sl_commands.specs.declared.Reply.{Reply}
use Rattle.sl_commands.specs.declared.Target.{Target}
use Rattle.sl_commands.specs.Commands.{is_outcome}
use Rattle.sl_commands.specs.Blocks.{Place, Underway, first_place, place_after, place_behind, may_follow, may_all_follow}
use Rattle.sl_ports.specs.declared.keepers.Keeper.{Ghosts as Keeper}
use Rattle.looper_rules.specs.SaveBlocks.{ends_in}
use Rattle.run_laws.proofs.Saves.Ends.{ends-append}
use Rattle.loop_saver.specs.declared.saver.Saved.{Saved}
use Rattle.loop_saver.specs.declared.saver.Saved.TheVariants.{Continue, Finished}
use Rattle.loop_saver.specs.Savers.{SavingOf, may_come}
use Rattle.loop_saver.specs.Accepting.{Accepts}
use Rattle.loop_saver.specs.Keeping.{Keeps, HasCome, outcome_in}
use Rattle.loop_saver.proofs.ComeLemmas.{some_then}
use Rattle.loop_saver.proofs.KeepLemmas.{one_kept, keeps_then, are_outcomes}
use Rattle.loop_saver.proofs.PlaceLemmas.{comes_behind, follower_comes}
use Rattle.event_rings.specs.Ends.{BothEnds, SameBothRing, TakesRest}
use Rattle.engine_steps.specs.Engines.{EngineOf, first_of, left, next_block, block_sent, waiting}
use Rattle.live_steps.proofs.RoomLemmas.{block_follows, all_answered}
use Rattle.live_goes.specs.Going.{no_more}
use Rattle.live_goes.proofs.GoLemmas.{goes_block}
use Rattle.settling.specs.Standing.{StandsBehind, IsOwed, IsServed, MayFeed}
use Rattle.settling.specs.Steps.{more_outcomes, GoesBy, FedOf, feeding, Fed}
use Rattle.settling.proofs.TakeLemmas.{by_none, by_then, stands_behind}

-- how many saves a place has behind a block
place_ends_one : (saves : ℕ) (underway : Option Underway) (b : Block) (p : Place) →
    place_after saves underway b ≡ Some p → p.saves ≡ saves + ends_in (b ∷ [])
place_ends_one saves None (Head save name target settings) p is =
    let same = ap (λ (q : Place). q.saves) (some_then _ _ p is).1 in omega arith
place_ends_one saves None (Part save index frames) p is = absurd (Prim.cc)
place_ends_one saves None (End save) p is = absurd (Prim.cc)
place_ends_one saves (Some u) (Head save name target settings) p is = absurd (Prim.cc)
place_ends_one saves (Some u) (Part save index frames) p is =
    let same = ap (λ (q : Place). q.saves) (some_then _ _ p is).1 in omega arith
place_ends_one saves (Some u) (End save) p is =
    let same = ap (λ (q : Place). q.saves) (some_then _ _ p is).1 in omega arith

-- nothing comes behind what breaks the order
none_behind : (bs : List Block) (p : Place) → place_behind None bs ≡ Some p → ⊥
none_behind [] p is = Prim.cc
none_behind (b ∷ bs) p is = Prim.cc

-- as many saves end in blocks as their place says
place_ends : (bs : List Block) (q p : Place) → place_behind (Some q) bs ≡ Some p →
    p.saves ≡ q.saves + ends_in bs
place_ends [] q p is =
    let same : q ≡ p = Prim.cc in let n = ap (λ (r : Place). r.saves) same in omega arith
place_ends (b ∷ bs) q p is =
    by_next (place_after q.saves q.underway b) refl is (λ r. place_ends bs r p)
  where
    by_next : (o : Option Place) → place_after q.saves q.underway b ≡ o →
        place_behind o bs ≡ Some p →
        ((r : Place) → place_behind (Some r) bs ≡ Some p → p.saves ≡ r.saves + ends_in bs) →
        p.saves ≡ q.saves + ends_in (b ∷ bs)
    by_next None here rest behind = absurd (none_behind bs p rest)
    by_next (Some r) here rest behind =
        let one = place_ends_one q.saves q.underway b r here in
        let more = behind r rest in
        let both = ends-append (b ∷ []) bs in
        omega arith

pub come_ends : (saving : Option SavingOf) (blocks : List Block) (saves : ℕ) →
    HasCome saving blocks saves → saves ≡ ends_in blocks
come_ends saving blocks saves come =
    let all = place_ends blocks first_place _ come.place in omega arith

-- a block that the engine sent
block_by : (b : Block) (e next : EngineOf) → next_block e ≡ Some b → next ≡ block_sent e →
    GoesBy (record no_more { blocks = b ∷ [] }) [] e next
block_by b e next is now =
    subst (λ n. GoesBy (record no_more { blocks = b ∷ [] }) [] e n) (sym now) (goes_block b e is)

module _ {P : Type 0} (k : Keeper P) (rate : ℕ) where
  -- a block gives an outcome where a save ends in it
  ends_one : (b : Block) (saving after : Option SavingOf) (old new : P) (answer : Saved) →
      Accepts k rate b saving after old new answer →
      length (outcome_in answer) ≡ ends_in (b ∷ [])
  ends_one (Head save name target settings) saving after old new answer a =
      ap (λ s. length (outcome_in s)) a.2
  ends_one (Part save index frames) None after old new answer a = absurd a
  ends_one (Part save index frames) (Some s) after old new answer a =
      ap (λ s. length (outcome_in s)) a.1
  ends_one (End save) None after old new answer a = absurd a
  ends_one (End save) (Some s) after old new answer a =
      ap (λ s. length (outcome_in s)) a.answer_is

  -- so as many outcomes come as saves end in the blocks
  kept_ends : (bs : List Block) (saving after : Option SavingOf) (old new : P)
      (outs : List ℕ) → Keeps k rate bs saving old outs after new → length outs ≡ ends_in bs
  kept_ends [] saving after old new outs keeps = ap length keeps.0
  kept_ends (b ∷ bs) saving after old new outs keeps =
      let one = ends_one b saving keeps.mid old keeps.now keeps.answer keeps.accepts in
      let rest = kept_ends bs keeps.mid after keeps.now new keeps.more keeps.behind in
      let all = ap length keeps.gave ∙ length-append (outcome_in keeps.answer) keeps.more in
      let both = ends-append (b ∷ []) bs in
      omega arith

  -- no block was fed
  pub fed_none : (s : FedOf P) → Fed k rate [] [] [] s s
  fed_none s =
      record { outcomes = []; keeps = (refl, refl, refl); goes = by_none s.engine }

  -- blocks were fed, and then others
  pub fed_then : (bs cs gs hs : List Block) (rs qs : List Reply) (s t u : FedOf P) →
      Fed k rate bs gs rs s t → Fed k rate cs hs qs t u →
      Fed k rate (bs ++ cs) (gs ++ hs) (rs ++ qs) s u
  fed_then bs cs gs hs rs qs s t u x y =
      record {
        outcomes = x.outcomes ++ y.outcomes;
        keeps = keeps_then k rate bs cs s.saving t.saving u.saving s.keeper t.keeper u.keeper
            x.outcomes y.outcomes x.keeps y.keeps;
        goes = by_then s.engine t.engine u.engine
            (record no_more { saver = x.outcomes; blocks = gs })
            (record no_more { saver = y.outcomes; blocks = hs }) rs qs x.goes y.goes;
      }

  -- the saver stands behind the blocks that were fed
  pub served_on : (bound : ℕ) (fed sent bs gs : List Block) (rs : List Reply) (s t : FedOf P) →
      IsServed s.engine s.saving fed sent → IsTrue (may_all_follow fed bs bound) →
      Fed k rate bs gs rs s t → IsServed t.engine t.saving (fed ++ bs) (sent ++ gs)
  served_on bound fed sent bs gs rs s t x follow f =
      let outs = kept_ends bs s.saving t.saving s.keeper t.keeper f.outcomes f.keeps in
      let both = ends-append fed bs in
      let long = length-append x.outcomes f.outcomes in
      let each = x.each in
      record {
        outcomes = x.outcomes ++ f.outcomes;
        stands = stands_behind s.engine t.engine x.outcomes f.outcomes sent gs rs x.stands
            f.goes;
        each = omega arith;
        saves = x.saves + length f.outcomes;
        come = comes_behind k rate bound fed bs x.saves s.saving t.saving s.keeper t.keeper
            f.outcomes
            x.come follow f.keeps;
      }

  -- a block with which its save goes on
  pub goes_fed : (b : Block) (e : EngineOf) (saving after : Option SavingOf) (old new : P) →
      Accepts k rate b saving after old new Continue →
      Fed k rate (b ∷ []) [] [] (feeding e saving old) (feeding e after new)
  goes_fed b e saving after old new a =
      record {
        outcomes = [];
        keeps = one_kept k rate b saving after old new Continue a;
        goes = by_none e;
      }

  -- a block that ends its save: its outcome is one, and is owed
  pub ended_outcome : (b : Block) (saving after : Option SavingOf) (old new : P)
      (target : Target) (o : ℕ) → Accepts k rate b saving after old new (Finished target o) →
      IsTrue (is_outcome o)
  ended_outcome b saving after old new target o a =
      (are_outcomes k rate (b ∷ []) saving after old new (o ∷ [])
      (one_kept k rate b saving after old new (Finished target o) a)).0

  pub ended_owed : (b : Block) (e : EngineOf) (saving after : Option SavingOf) (old new : P)
      (target : Target) (o : ℕ) → MayFeed e saving b →
      Accepts k rate b saving after old new (Finished target o) → IsOwed e
  ended_owed b e saving after old new target o may a =
      let one = ends_one b saving after old new (Finished target o) a in
      let both = ends-append may.fed (b ∷ []) in
      let within = may.ends in
      let each = may.served.each in
      record {
        outcomes = may.served.outcomes;
        blocks = may.sent;
        stands = may.served.stands;
        more = omega arith;
      }

  pub ended_fed : (b : Block) (e e' : EngineOf) (saving after : Option SavingOf) (old new : P)
      (target : Target) (o : ℕ) (rs : List Reply) →
      Accepts k rate b saving after old new (Finished target o) →
      GoesBy (more_outcomes (o ∷ [])) rs e e' →
      Fed k rate (b ∷ []) [] rs (feeding e saving old) (feeding e' after new)
  ended_fed b e e' saving after old new target o rs a g =
      record {
        outcomes = o ∷ [];
        keeps = one_kept k rate b saving after old new (Finished target o) a;
        goes = g;
      }

  -- a block that the engine gave itself
  pub given_fed : (b : Block) (e : EngineOf) (rs : List Reply) (s t : FedOf P) →
      next_block e ≡ Some b → s.engine ≡ block_sent e → Fed k rate (b ∷ []) [] rs s t →
      Fed k rate (b ∷ []) (b ∷ []) rs (feeding e s.saving s.keeper) t
  given_fed b e rs s t next sent f =
      record {
        outcomes = f.outcomes;
        keeps = f.keeps;
        goes = by_then e s.engine t.engine (record no_more { blocks = b ∷ [] })
            (record no_more { saver = f.outcomes }) [] rs (block_by b e s.engine next sent) f.goes;
      }

-- a block that may be fed may come
pub fed_come : (e : EngineOf) (saving : Option SavingOf) (b : Block) → MayFeed e saving b →
    IsTrue (may_come saving b)
fed_come e saving b may =
    follower_comes may.fed b may.bound may.served.saves saving may.served.come may.follows

-- one block that may follow
pub one_follows : (fed : List Block) (b : Block) (bound : ℕ) → IsTrue (may_follow fed b bound) →
    IsTrue (may_all_follow fed (b ∷ []) bound)
one_follows fed b bound follows = and_from (may_follow fed b bound) true follows refl

-- a block that is left in the ring may be fed
pub drained_feeds : (b : Block) (e : EngineOf) (saving : Option SavingOf)
    (m m' : BothEnds Block) → IsServed e saving m.taken m.sent → SameBothRing m m' →
    TakesRest (λ sent x bound. IsTrue (may_follow sent x bound)) b m m' → MayFeed e saving b
drained_feeds b e saving m m' served ring next =
    let all : m.sent ≡ (m.taken ++ b ∷ []) ++ next.rest =
    sym ring.sent ∙ next.order ∙ ap (λ l. l ++ next.rest) next.taken in
    let ends = ap ends_in all in
    let both = ends-append (m.taken ++ b ∷ []) next.rest in
    record {
      fed = m.taken;
      sent = m.sent;
      bound = m.bound;
      served = served;
      follows = next.may;
      ends = omega arith;
    }

-- and behind it the saver stands behind one more
pub drained_served : {P : Type 0} (k : Keeper P) (rate : ℕ) (b : Block) (rs : List Reply)
    (s t : FedOf P)
    (m m' : BothEnds Block) → IsServed s.engine s.saving m.taken m.sent → SameBothRing m m' →
    TakesRest (λ sent x bound. IsTrue (may_follow sent x bound)) b m m' →
    Fed k rate (b ∷ []) [] rs s t → IsServed t.engine t.saving m'.taken m'.sent
drained_served k rate b rs s t m m' served ring next f =
    subst (λ l. IsServed t.engine t.saving m'.taken l) (append-nil m.sent ∙ sym ring.sent)
    (subst (λ l. IsServed t.engine t.saving l (m.sent ++ [])) (sym next.taken)
    (served_on k rate m.bound m.taken m.sent (b ∷ []) [] rs s t served
    (one_follows m.taken b m.bound next.may) f))

-- the block that the engine sends next may follow
next_follows : (e : EngineOf) (saving : Option SavingOf) (b : Block) (sent : List Block) →
    (x : IsServed e saving sent sent) → next_block e ≡ Some b →
    IsTrue (may_follow sent b (2 * e.journal.quota))
next_follows e saving b sent x next =
    let p = x.stands.passed in
    let stands = x.stands.stands in
    let s = stands.step in
    subst (λ l. IsTrue (may_follow l b (2 * e.journal.quota))) x.stands.blocks_are
    (block_follows s.0 s.1 s.2 e p e.journal.quota (2 * e.journal.quota) b s.3 stands.osc
    stands.midi
    (omega arith) next)

-- behind it the engine stands behind one block more, and it may be fed
pub next_feeds : (e next : EngineOf) (saving : Option SavingOf) (b : Block) (sent : List Block) →
    IsServed e saving sent sent → next_block e ≡ Some b → next ≡ block_sent e →
    MayFeed next saving b
next_feeds e next saving b sent x is now =
    record {
      fed = sent;
      sent = sent ++ b ∷ [];
      bound = 2 * e.journal.quota;
      served = record {
        outcomes = x.outcomes;
        stands = subst (λ l. StandsBehind next l (sent ++ b ∷ [])) (append-nil x.outcomes)
            (stands_behind e next x.outcomes [] sent (b ∷ []) [] x.stands (block_by b e next is
            now));
        each = x.each;
        saves = x.saves;
        come = x.come;
      };
      follows = next_follows e saving b sent x is;
      ends = omega arith;
    }

pub next_served : {P : Type 0} (k : Keeper P) (rate : ℕ) (e : EngineOf) (b : Block)
    (sent : List Block) (rs : List Reply) (saving : Option SavingOf) (old : P) (t : FedOf P) →
    IsServed e saving sent sent → next_block e ≡ Some b →
    Fed k rate (b ∷ []) (b ∷ []) rs (feeding e saving old) t →
    IsServed t.engine t.saving (sent ++ b ∷ []) (sent ++ b ∷ [])
next_served k rate e b sent rs saving old t x is f =
    served_on k rate (2 * e.journal.quota) sent sent (b ∷ []) (b ∷ []) rs (feeding e saving old) t
    x (one_follows sent b (2 * e.journal.quota) (next_follows e saving b sent x is)) f

-- with no block left every save is answered
pub served_answered : (e : EngineOf) (saving : Option SavingOf) (sent : List Block) →
    IsServed e saving sent sent → e.sending ≡ [] → waiting e ≡ []
served_answered e saving sent x none =
    let s = x.stands.stands.step in
    let saver = ap length x.stands.saver in
    let ends = ap ends_in x.stands.blocks_are in
    let each = x.each in
    all_answered s.0 s.1 s.2 e x.stands.passed s.3 none (omega arith)

pub none_left : (e : EngineOf) → next_block e ≡ None → left e ≡ []
none_left e is = by_list (left e) is
  where
    by_list : (bs : List Block) → first_of bs ≡ None → bs ≡ []
    by_list [] is = refl
    by_list (b ∷ bs) is = absurd (Prim.cc)
