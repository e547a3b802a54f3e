use Rattle.std.proofs.Common.{rules, ◌≡◌}
use Rattle.command_words.specs.Words.{given_or}
use Rattle.live_ports.specs.declared.udp_link.Listen.TheVariants.{Local}
use Rattle.command_words.specs.LiveWords.{LiveGiven}
use Rattle.command_words.proofs.live.live_of.Goals as goal

pub returns : goal.returns
returns c =
    let g : LiveGiven = c.args.options in
    let port : c.unwrap_or.result ≡ given_or 9951 g.port = search rules in
    let period : c.unwrap_or-2.result ≡ given_or 1024 g.shared.period = search rules in
    let rate : c.unwrap_or-3.result ≡ given_or 48000 g.rate = search rules in
    let channels : c.unwrap_or-4.result ≡ given_or 2 g.channels = search rules in
    let chunks : c.unwrap_or-5.result ≡ given_or 4096 g.shared.chunks = search rules in
    let loops : c.unwrap_or-6.result ≡ given_or 1 g.shared.loops = search rules in
    let quota : c.unwrap_or-7.result ≡ given_or 262144 g.quota = search rules in
    let listen : c.unwrap_or-8.result ≡ given_or Local g.listen = search rules in
    let bind : c.options.inside.bind ≡ g.bind = search rules in
    let journal : c.options.inside.journal ≡ g.journal = search rules in
    let session : c.shared.inside.session ≡ g.shared.session = search rules in
    λ i. record {
      port = port i;
      midi = c.requires i;
      bind = bind i;
      period = period i;
      rate = rate i;
      channels = channels i;
      chunks = chunks i;
      loops = loops i;
      quota = quota i;
      journal = journal i;
      session = session i;
      listen = listen i;
    }
