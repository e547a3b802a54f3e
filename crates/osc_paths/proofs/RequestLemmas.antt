-- What is answered with a request is asked for so, and what is asked for is answered with it.
use Rattle.std.proofs.Common.{◌≡◌, ℕ, ◌≤◌, Bool, true, false, cond, not, ◌||◌, List, [], ◌∷◌, Option, Some, None, Result, Ok, Err, refl, sym, ap, subst, ◌∙◌, IfOk}
use Rattle.std.specs.Prelude.{ℤ}
use Rattle.std.proofs.lemmas.Bool.{and_parts, and_from}
use Rattle.sl_base.specs.Names.{is_name}
use Rattle.sl_base.specs.declared.addr.Addr.{Addr}
use Rattle.sl_commands.specs.declared.command.Command.{Command}
use Rattle.sl_commands.specs.declared.command.Command.TheVariants as commands
use Rattle.sl_commands.specs.declared.control.Control.{Control}
use Rattle.sl_commands.specs.declared.control.Range.{Range}
use Rattle.sl_commands.specs.declared.control.Range.TheVariants.{ReadOnly, Between, Source, LoopIndex}
use Rattle.sl_commands.specs.declared.verb.Verb.{Verb}
use Rattle.sl_commands.specs.Commands.{is_session_name}
use Rattle.sl_commands.specs.Controls.{control_row, control_name, is_of_loop, can_be_set, is_in_range, is_within, is_settable}
use Rattle.osc_reader.specs.declared.message.Arg.{Arg}
use Rattle.osc_reader.specs.declared.message.Arg.TheVariants.{Int, Text}
use Rattle.osc_reader.specs.declared.message.Message.{Message}
use Rattle.osc_paths.specs.declared.path.Path.{Path}
use Rattle.osc_paths.specs.declared.path.Path.TheVariants as paths
use Rattle.osc_paths.specs.declared.request.PathFault.{PathFault}
use Rattle.osc_paths.specs.declared.request.PathFault.TheVariants.{UnknownPath, UnknownCommand, UnknownControl, OutOfRange, BadUrl, BadName}
use Rattle.osc_paths.specs.declared.request.Request.{Request}
use Rattle.osc_paths.specs.declared.request.Request.TheVariants.{Play, Ping}
use Rattle.osc_paths.specs.declared.request.ReturnTo.{ReturnTo}
use Rattle.osc_paths.specs.ReturnPaths.{is_return_path}
use Rattle.osc_paths.specs.Returns.{IsReturn, return_in}
use Rattle.osc_paths.specs.Urls.{url_in}
use Rattle.osc_paths.specs.Paths.{IsPath, path_in}
use Rattle.osc_paths.specs.Requests.{AsksVerb, AsksSet, AsksGet, AsksSave, AsksSession, AsksPing, AsksQuit, Asks, IsRequest}
use Rattle.osc_paths.specs.Answers.{◌>>=◌, need, verb_in, control_in, fits_path, kept, control_on, verb_answer, set_to, set_answer, get_answer, save_answer, session_answer, ping_answer, quit_answer, answer_on, answered}
use Rattle.osc_paths.proofs.NameLemmas.{verb_has_its_name, control_has_its_name, verb_is_named, control_is_named}
use Rattle.osc_paths.proofs.PathLemmas.{path_takes, path_again}
use Rattle.osc_paths.proofs.TextLemmas.{some_is, bind_some, guard_some}
use Rattle.osc_paths.proofs.UrlLemmas.{url_takes, url_again}

-- the value of a step that had no fault
bind_ok : {A B : Type 0} (read : Result A PathFault) (next : A → Result B PathFault) (y : B) →
    (read >>= next) ≡ Ok y → (x : A) × (read ≡ Ok x) × (next x ≡ Ok y)
bind_ok (Ok x) next y same = (x, refl, same)
bind_ok (Err fault) next y same = absurd cc

abbrev done : Request → Result Request PathFault
done x = Ok x

ok_is : (x y : Request) → done x ≡ done y → x ≡ y
ok_is x y same = cc

need_ok : {A : Type 0} (fault : PathFault) (o : Option A) (x : A) → need fault o ≡ Ok x → o ≡ Some x
need_ok fault (Some y) x same = cc
need_ok fault None x same = absurd cc

guard_ok : (b : Bool) (fault : PathFault) (x y : Request) → cond b (done x) (Err fault) ≡ Ok y →
    (b ≡ true) × (x ≡ y)
guard_ok true fault x y same = (refl, ok_is x y same)
guard_ok false fault x y same = absurd cc

-- controls
kept_is : (test : Control → Bool) (found : Option Control) (control : Control) →
    kept test found ≡ Some control → (found ≡ Some control) × (test control ≡ true)
kept_is test None control same = absurd cc
kept_is test (Some x) control same =
    let held = guard_some (test x) (Some x) control same in
    let is : x ≡ control = some_is x control held.1 in
    (ap (λ (c : Control). Some c) is, ap test (sym is) ∙ held.0)

not_true : (b : Bool) → not b ≡ true → b ≡ false
not_true true same = absurd cc
not_true false same = refl

kind_of : (of_loop to_set : Bool) (control : Control) → fits_path of_loop to_set control ≡ true →
    is_of_loop control ≡ of_loop
kind_of true to_set control fits =
    (and_parts (is_of_loop control) (not to_set || can_be_set control) fits).0
kind_of false to_set control fits = not_true (is_of_loop control)
    ((and_parts (not (is_of_loop control)) (not to_set || can_be_set control) fits).0)

control_takes : (of_loop to_set : Bool) (name : List ℕ) (control : Control) →
    control_on of_loop to_set name ≡ Some control → (name ≡ control_name control)
    × (is_of_loop control ≡ of_loop)
control_takes of_loop to_set name control same =
    let held = kept_is (fits_path of_loop to_set) (control_in name) control same in
    (control_is_named name control held.0, kind_of of_loop to_set control held.1)

fits : (of_loop to_set : Bool) (control : Control) → is_of_loop control ≡ of_loop →
    (not to_set || can_be_set control) ≡ true → fits_path of_loop to_set control ≡ true
fits true to_set control kind settable =
    and_from (is_of_loop control) (not to_set || can_be_set control) kind settable
fits false to_set control kind settable =
    and_from (not (is_of_loop control)) (not to_set || can_be_set control) (ap not kind) settable

control_again : (of_loop to_set : Bool) (control : Control) → is_of_loop control ≡ of_loop →
    (not to_set || can_be_set control) ≡ true →
    control_on of_loop to_set (control_name control) ≡ Some control
control_again of_loop to_set control kind settable =
    rw (control_has_its_name control, fits of_loop to_set control kind settable) refl

settable_within : (range : Range) (loops : ℕ) (value : ℤ) → is_within range loops value ≡ true →
    is_settable range ≡ true
settable_within ReadOnly loops value within = absurd cc
settable_within (Between least greatest first) loops value within = refl
settable_within Source loops value within = refl
settable_within LoopIndex loops value within = refl

-- where replies go
return_takes : (from : Addr) (url path : List ℕ) (to : ReturnTo) →
    return_in from url path ≡ Some to → IsReturn from url to × (path ≡ to.path)
return_takes from url path to same =
    let addr = bind_some (url_in from url)
    (λ a. cond (is_return_path path) (Some (record { addr = a; path = path })) None) to same in
    let held = guard_some (is_return_path path) (Some (record { addr = addr.0; path = path })) to
    addr.2 in
    let made : ReturnTo = record { addr = addr.0; path = path } in
    subst (λ (t : ReturnTo). IsReturn from url t × (path ≡ t.path)) (some_is made to held.1)
    (record { addressed = url_takes from url addr.0 addr.1; path = held.0 }, refl)

return_again : (from : Addr) (url : List ℕ) (to : ReturnTo) → IsReturn from url to →
    return_in from url to.path ≡ Some to
return_again from url to is = rw (url_again from url to.addr is.addressed, is.path) refl

-- verbs
verb_takes : (make : Verb → Command) (args : List Arg) (request : Request) →
    verb_answer make args ≡ Ok request → AsksVerb make args request
unfolding verb_answer
verb_takes make (Text name ∷ []) request same =
    let verb = bind_ok (need UnknownCommand (verb_in name)) (λ verb. Ok (Play (make verb) None))
    request same in
    let named = verb_is_named name verb.0 (need_ok UnknownCommand (verb_in name) verb.0 verb.1) in
    record {
      verb = verb.0;
      spelled = ap (λ (n : List ℕ). Text n ∷ []) named;
      asks =
          sym (ok_is _ request verb.2);
    }
verb_takes make _ request same = absurd cc

verb_again : (make : Verb → Command) (args : List Arg) (request : Request) →
    AsksVerb make args request → verb_answer make args ≡ Ok request
unfolding verb_answer
verb_again make args request is =
    ap (verb_answer make) is.spelled ∙ rw (verb_has_its_name is.verb, is.asks) refl

-- what is set
set_takes : (of_loop : Bool) (make : Control → ℤ → Command) (loops : ℕ) (args : List Arg)
    (request : Request) → set_answer of_loop make loops args ≡ Ok request →
    AsksSet of_loop make loops args request
unfolding set_answer
set_takes of_loop make loops (Text name ∷ Int value ∷ []) request same =
    let control = bind_ok (need UnknownControl (control_on of_loop true name))
    (λ control. set_to make loops control value) request same in
    let is = control_takes of_loop true name control.0
    (need_ok UnknownControl (control_on of_loop true name) control.0 control.1) in
    let judged = guard_ok (is_in_range control.0 value loops) OutOfRange
    (Play (make control.0 value) None) request control.2 in
    record {
      control = control.0;
      value = value;
      kind = is.1;
      within = judged.0;
      spelled =
          ap (λ (n : List ℕ). Text n ∷ Int value ∷ []) is.0;
      asks = sym judged.1;
    }
set_takes of_loop make loops _ request same = absurd cc

set_again : (of_loop : Bool) (make : Control → ℤ → Command) (loops : ℕ) (args : List Arg)
    (request : Request) → AsksSet of_loop make loops args request →
    set_answer of_loop make loops args ≡ Ok request
unfolding set_answer
set_again of_loop make loops args request is =
    let settable = settable_within (control_row is.control).range loops is.value is.within in
    ap (set_answer of_loop make loops) is.spelled
    ∙ rw (control_again of_loop true is.control is.kind settable, is.within, is.asks) refl

-- what is read
get_takes : (of_loop : Bool) (make : Control → Command) (from : Addr) (args : List Arg)
    (request : Request) → get_answer of_loop make from args ≡ Ok request →
    AsksGet of_loop make from args request
unfolding get_answer
get_takes of_loop make from (Text name ∷ Text url ∷ Text path ∷ []) request same =
    let control = bind_ok (need UnknownControl (control_on of_loop false name))
    (λ control. need BadUrl (return_in from url path) >>= λ to.
    Ok (Play (make control) (Some to))) request same in
    let to = bind_ok (need BadUrl (return_in from url path))
    (λ to. Ok (Play (make control.0) (Some to))) request control.2 in
    let is = control_takes of_loop false name control.0
    (need_ok UnknownControl (control_on of_loop false name) control.0 control.1) in
    let returned = return_takes from url path to.0
    (need_ok BadUrl (return_in from url path) to.0 to.1) in
    record {
      control = control.0;
      url = url;
      to = to.0;
      kind = is.1;
      returns = returned.0;
      spelled =
          ap (λ (n : List ℕ). Text n ∷ Text url ∷ Text path ∷ []) is.0
          ∙ ap (λ (p : List ℕ). Text (control_name control.0) ∷ Text url ∷ Text p ∷ []) returned.1;
      asks = sym (ok_is _ request to.2);
    }
get_takes of_loop make from _ request same = absurd cc

get_again : (of_loop : Bool) (make : Control → Command) (from : Addr) (args : List Arg)
    (request : Request) → AsksGet of_loop make from args request →
    get_answer of_loop make from args ≡ Ok request
unfolding get_answer
get_again of_loop make from args request is =
    ap (get_answer of_loop make from) is.spelled
    ∙ rw (
      control_again of_loop false is.control is.kind refl,
      return_again from is.url is.to is.returns,
      is.asks,
    ) refl

-- what is saved
save_takes : (make : List ℕ → Command) (from : Addr) (args : List Arg) (request : Request) →
    save_answer make from args ≡ Ok request → AsksSave make from args request
unfolding save_answer
save_takes make from (Text name ∷ Text format ∷ Text endian ∷ Text url ∷ Text path ∷ []) request
    same =
    let to = bind_ok (need BadUrl (return_in from url path))
    (λ to. cond (is_name name) (done (Play (make name) (Some to))) (Err BadName)) request
    same in
    let judged = guard_ok (is_name name) BadName (Play (make name) (Some to.0)) request to.2 in
    let returned = return_takes from url path to.0
    (need_ok BadUrl (return_in from url path) to.0 to.1) in
    record {
      name = name;
      format = format;
      endian = endian;
      url = url;
      to = to.0;
      named =
          judged.0;
      returns = returned.0;
      spelled =
          ap (λ (p : List ℕ). Text name ∷ Text format ∷ Text endian ∷ Text url ∷ Text p ∷ [])
          returned.1;
      asks = sym judged.1;
    }
save_takes make from _ request same = absurd cc

save_again : (make : List ℕ → Command) (from : Addr) (args : List Arg) (request : Request) →
    AsksSave make from args request → save_answer make from args ≡ Ok request
unfolding save_answer
save_again make from args request is = ap (save_answer make from) is.spelled
    ∙ rw (return_again from is.url is.to is.returns, is.named, is.asks) refl

session_takes : (from : Addr) (args : List Arg) (request : Request) →
    session_answer from args ≡ Ok request → AsksSession from args request
unfolding session_answer
session_takes from (Text name ∷ Text url ∷ Text path ∷ []) request same =
    let to = bind_ok (need BadUrl (return_in from url path))
    (λ to. cond (is_session_name name) (done (Play (commands.SaveSession name) (Some to)))
    (Err BadName)) request same in
    let judged = guard_ok (is_session_name name) BadName
    (Play (commands.SaveSession name) (Some to.0)) request to.2 in
    let returned = return_takes from url path to.0
    (need_ok BadUrl (return_in from url path) to.0 to.1) in
    record {
      name = name;
      url = url;
      to = to.0;
      named = judged.0;
      returns = returned.0;
      spelled =
          ap (λ (p : List ℕ). Text name ∷ Text url ∷ Text p ∷ []) returned.1;
      asks = sym judged.1;
    }
session_takes from _ request same = absurd cc

session_again : (from : Addr) (args : List Arg) (request : Request) →
    AsksSession from args request → session_answer from args ≡ Ok request
unfolding session_answer
session_again from args request is = ap (session_answer from) is.spelled
    ∙ rw (return_again from is.url is.to is.returns, is.named, is.asks) refl

-- a ping, and the end
ping_takes : (from : Addr) (args : List Arg) (request : Request) →
    ping_answer from args ≡ Ok request → AsksPing from args request
unfolding ping_answer
ping_takes from (Text url ∷ Text path ∷ []) request same =
    let to = bind_ok (need BadUrl (return_in from url path)) (λ to. done (Ping to)) request same in
    let returned = return_takes from url path to.0
    (need_ok BadUrl (return_in from url path) to.0 to.1) in
    record {
      url = url;
      to = to.0;
      returns = returned.0;
      spelled =
          ap (λ (p : List ℕ). Text url ∷ Text p ∷ []) returned.1;
      asks = sym (ok_is _ request to.2);
    }
ping_takes from _ request same = absurd cc

ping_again : (from : Addr) (args : List Arg) (request : Request) → AsksPing from args request →
    ping_answer from args ≡ Ok request
unfolding ping_answer
ping_again from args request is =
    ap (ping_answer from) is.spelled ∙ rw (return_again from is.url is.to is.returns, is.asks) refl

quit_takes : (args : List Arg) (request : Request) → quit_answer args ≡ Ok request →
    AsksQuit args request
unfolding quit_answer
quit_takes [] request same = record { spelled = refl; asks = sym (ok_is _ request same) }
quit_takes _ request same = absurd cc

quit_again : (args : List Arg) (request : Request) → AsksQuit args request →
    quit_answer args ≡ Ok request
unfolding quit_answer
quit_again args request is = ap quit_answer is.spelled ∙ rw (is.asks) refl

-- every path
on_takes : (path : Path) (loops : ℕ) (from : Addr) (args : List Arg) (request : Request) →
    answer_on path loops from args ≡ Ok request → Asks path loops from args request
on_takes (paths.Down target) loops from args request same =
    verb_takes (commands.Down target) args request same
on_takes (paths.Up target) loops from args request same =
    verb_takes (commands.Up target) args request same
on_takes (paths.Hit target) loops from args request same =
    verb_takes (commands.Hit target) args request same
on_takes (paths.Set target) loops from args request same =
    set_takes true (commands.Set target) loops args request same
on_takes (paths.Get target) loops from args request same =
    get_takes true (commands.Get target) from args request same
on_takes (paths.SaveLoop target) loops from args request same =
    save_takes (commands.SaveLoop target) from args request same
on_takes paths.SetGlobal loops from args request same =
    set_takes false commands.SetGlobal loops args request same
on_takes paths.GetGlobal loops from args request same =
    get_takes false commands.GetGlobal from args request same
on_takes paths.SaveSession loops from args request same = session_takes from args request same
on_takes paths.Ping loops from args request same = ping_takes from args request same
on_takes paths.Quit loops from args request same = quit_takes args request same

on_again : (path : Path) (loops : ℕ) (from : Addr) (args : List Arg) (request : Request) →
    Asks path loops from args request → answer_on path loops from args ≡ Ok request
on_again (paths.Down target) loops from args request is =
    verb_again (commands.Down target) args request is
on_again (paths.Up target) loops from args request is =
    verb_again (commands.Up target) args request is
on_again (paths.Hit target) loops from args request is =
    verb_again (commands.Hit target) args request is
on_again (paths.Set target) loops from args request is =
    set_again true (commands.Set target) loops args request is
on_again (paths.Get target) loops from args request is =
    get_again true (commands.Get target) from args request is
on_again (paths.SaveLoop target) loops from args request is =
    save_again (commands.SaveLoop target) from args request is
on_again paths.SetGlobal loops from args request is =
    set_again false commands.SetGlobal loops args request is
on_again paths.GetGlobal loops from args request is =
    get_again false commands.GetGlobal from args request is
on_again paths.SaveSession loops from args request is = session_again from args request is
on_again paths.Ping loops from args request is = ping_again from args request is
on_again paths.Quit loops from args request is = quit_again args request is

pub request_takes : (loops : ℕ) (from : Addr) (message : Message) (request : Request) →
    answered loops from message ≡ Ok request → IsRequest loops from message request
request_takes loops from message request same =
    let path = bind_ok (need UnknownPath (path_in loops message.address))
    (λ path. answer_on path loops from message.args) request same in
    record {
      path = path.0;
      addressed = path_takes loops message.address path.0
          (need_ok UnknownPath (path_in loops message.address) path.0 path.1);
      says = on_takes path.0 loops from message.args request path.2;
    }

pub request_again : (loops : ℕ) (from : Addr) (message : Message) (request : Request) →
    loops ≤ 256 → IsRequest loops from message request → answered loops from message ≡ Ok request
request_again loops from message request few is =
    rw (path_again loops message.address is.path few is.addressed)
    (on_again is.path loops from message.args request is.says)

pub request_found : (loops : ℕ) (from : Addr) (message : Message)
    (read : Result Request PathFault) → read ≡ answered loops from message →
    IfOk read (IsRequest loops from message)
request_found loops from message (Ok request) same =
    request_takes loops from message request (sym same)
request_found loops from message (Err fault) same = tt

-- an address that isn't in the table
path_missing : (loops : ℕ) (address : List ℕ) (read : Option Path) → path_in loops address ≡ read →
    ((path : Path) → ¬ IsPath loops path address) → read ≡ None
path_missing loops address None is none = refl
path_missing loops address (Some path) is none =
    absurd (none path (path_takes loops address path is))

pub unknown_is_told : (loops : ℕ) (from : Addr) (message : Message) →
    ((path : Path) → ¬ IsPath loops path message.address) →
    answered loops from message ≡ Err UnknownPath
unknown_is_told loops from message none =
    rw (path_missing loops message.address (path_in loops message.address) refl none) refl

pub known_is_answered : (loops : ℕ) (from : Addr) (message : Message) (path : Path) → loops ≤ 256 →
    IsPath loops path message.address →
    answered loops from message ≡ answer_on path loops from message.args
known_is_answered loops from message path few is =
    rw (path_again loops message.address path few is) refl
