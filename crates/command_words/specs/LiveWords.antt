-- The words of a live session are `live` with options behind it, each two words, in any order and
-- each at most once: `--port N` (1 to 65535), `--midi PATH` (1 to 4096 bytes), `--bind NAME`,
-- `--rate N` (1 to 768000), `--channels N` (1 or 2), `--quota N` (1 to 1048576), `--journal NAME`,
-- `--listen WHERE`, where WHERE is `local` or `all`, and the options of `render`. `--loops` and
-- `--session` exclude each other, and so do `--rate` and `--session`. Where one isn't given, the
-- port is 9951, the rate 48000, there are 2 channels, the quota is 262144, and the packets of this
-- machine are heard; there is no MIDI device, no binding and no journal.
-- "The words of the command line" in docs/formats.md.
use Rattle.std.specs.Prelude.{ℕ, Bool, ◌&&◌, ◌||◌, List, [], ◌∷◌, length, nat_le, Option, Some, None, is_some, if◌then◌else◌, codes}
use Rattle.std.specs.Option.{option_map, option_and_then}
use Rattle.std.specs.Str.{bytes_eq}
use Rattle.sl_base.specs.Limits.{max_rate, max_quota}
use Rattle.sl_base.specs.Names.{is_name}
use Rattle.command_words.specs.Words.{Given, none_given, number_in, first_given, with_option, options_in, given_or}
use Rattle.live_ports.specs.declared.udp_link.Listen.{Listen}
use Rattle.live_ports.specs.declared.udp_link.Listen.TheVariants.{Local, All}

-- the greatest port
abbrev pub max_port : ℕ
max_port = 65535

-- the most bytes of a path
abbrev pub max_path : ℕ
max_path = 4096

-- the most channels
abbrev pub max_channels : ℕ
max_channels = 2

-- what a live session is asked for
pub record LiveAsked : Type 0 where
  pub port : ℕ
  pub midi : Option (List ℕ)
  pub bind : Option (List ℕ)
  pub period : ℕ
  pub rate : ℕ
  pub channels : ℕ
  pub chunks : ℕ
  pub loops : ℕ
  pub quota : ℕ
  pub journal : Option (List ℕ)
  pub session : Option (List ℕ)
  pub listen : Listen

-- the options that were given: those that `render` has too, and the others
pub record LiveGiven : Type 0 where
  pub shared : Given
  pub port : Option ℕ
  pub midi : Option (List ℕ)
  pub bind : Option (List ℕ)
  pub rate : Option ℕ
  pub channels : Option ℕ
  pub quota : Option ℕ
  pub journal : Option (List ℕ)
  pub listen : Option Listen

abbrev pub none_live : LiveGiven
none_live = record {
  shared = none_given;
  port = None;
  midi = None;
  bind = None;
  rate = None;
  channels = None;
  quota = None;
  journal = None;
  listen = None;
}

-- the name that a word is
abbrev pub name_in : List ℕ → Option (List ℕ)
name_in word = if is_name word then Some word else None

-- the path that a word is
abbrev pub path_in : List ℕ → Option (List ℕ)
path_in word = if nat_le 1 (length word) && nat_le (length word) max_path then Some word else None

-- whose packets a word says are heard
abbrev pub listen_in : List ℕ → Option Listen
listen_in word = if bytes_eq word (codes "local") then Some Local
    else if bytes_eq word (codes "all") then Some All else None

-- with one option more that is no number, or None where it isn't one
abbrev pub with_other_option : List ℕ → List ℕ → LiveGiven → Option LiveGiven
with_other_option word value g =
    if bytes_eq word (codes "--midi") then option_map (λ path. record g { midi = Some path })
    (first_given g.midi (path_in value))
    else if bytes_eq word (codes "--bind") then option_map (λ name. record g { bind = Some name })
    (first_given g.bind (name_in value))
    else if bytes_eq word (codes "--journal") then
    option_map (λ name. record g { journal = Some name }) (first_given g.journal (name_in value))
    else if bytes_eq word (codes "--listen") then option_map (λ who. record g { listen = Some who })
    (first_given g.listen (listen_in value))
    else option_map (λ given. record g { shared = given }) (with_option word value g.shared)

-- with one option more, or None where it isn't one
abbrev pub with_live_option : List ℕ → List ℕ → LiveGiven → Option LiveGiven
with_live_option word value g =
    if bytes_eq word (codes "--port") then option_map (λ n. record g { port = Some n })
    (first_given g.port (number_in max_port value))
    else if bytes_eq word (codes "--rate") then option_map (λ n. record g { rate = Some n })
    (first_given g.rate (number_in max_rate value))
    else if bytes_eq word (codes "--channels") then option_map (λ n. record g { channels = Some n })
    (first_given g.channels (number_in max_channels value))
    else if bytes_eq word (codes "--quota") then option_map (λ n. record g { quota = Some n })
    (first_given g.quota (number_in max_quota value))
    else with_other_option word value g

-- the options exclude one another: a session has its own loops and its own rate
abbrev pub is_excluded : LiveGiven → Bool
is_excluded g = is_some g.shared.session && (is_some g.shared.loops || is_some g.rate)

-- the session that options ask for
abbrev pub live_of : LiveGiven → LiveAsked
live_of g = record {
  port = given_or 9951 g.port;
  midi = g.midi;
  bind = g.bind;
  period = given_or 1024 g.shared.period;
  rate = given_or 48000 g.rate;
  channels = given_or 2 g.channels;
  chunks = given_or 4096 g.shared.chunks;
  loops = given_or 1 g.shared.loops;
  quota = given_or 262144 g.quota;
  journal = g.journal;
  session = g.shared.session;
  listen = given_or Local g.listen;
}

-- the same, where they go together
abbrev pub live_with : LiveGiven → Option LiveAsked
live_with g = if is_excluded g then None else Some (live_of g)

-- what the words ask for, or None where they aren't in the grammar
abbrev pub live_in : List (List ℕ) → Option LiveAsked
live_in [] = None
live_in (first ∷ words) = if bytes_eq first (codes "live") then
    option_and_then live_with (options_in with_live_option words none_live) else None
