-- The options that command words ask for are within their ranges.
use Rattle.std.proofs.Common.{◌≡◌, ℕ, ◌==◌, ◌&&◌, nat_le, List, [], ◌∷◌, codes, Some, option_and_then, subst}
use Rattle.std.specs.Int.{IsInRange}
use Rattle.std.proofs.lemmas.Bool.{and_parts, eqb-true, leb-true}
use Rattle.std.proofs.lemmas.Option.{none-some, same_Some, cond_some, option_and_then_some}
use Rattle.clap.specs.Kinds.{Kinds}
use Rattle.clap.specs.Walk.{Row, Text, first_of, one_of}
use Rattle.dn_top.specs.declared.options.Options.{Options}
use Rattle.program_outside.specs.Numbers.{if_within, number_in_text}
use Rattle.program_outside.specs.Words.{faults_in, number_in, switch_in, values_in, where_taken}
use Rattle.dn_top.specs.declared.options.Order.{Order}
use Rattle.dn_top.specs.declared.options.Order.TheVariants.{Seed, Time}
use Rattle.dn_top.specs.Command.{command, mode_in, net_in, order_by, order_in, order_named, options_from, options_of, OptionsInRange}

within-range : (low high number n : ℕ) → if_within low high number ≡ Some n → IsInRange low high n
within-range low high number n e =
    let got = cond_some (nat_le low number && nat_le number high) number n e in
    let both = and_parts (nat_le low number) (nat_le number high) got.0 in
    subst (IsInRange low high) got.1 (leb-true low number both.0, leb-true number high both.1)

number-range : (rows : List Row) (name : Text) (low high n : ℕ) → number_in rows name low high ≡ Some n → IsInRange low high n
number-range rows name low high n e =
    option_and_then_some (if_within low high) (option_and_then number_in_text (one_of name rows)) n e (λ number _ is. within-range low high number n is)

-- a run in time order is asked for with one worker alone
by-alone : (workers : ℕ) (named order : Order) → order_by workers named ≡ Some order → order ≡ Time → workers ≡ 1
by-alone workers Seed order is time = absurd (cc (same_Some Seed order is, time))
by-alone workers Time order is time = eqb-true workers 1 (cond_some (workers == 1) Time order is).0

order-alone : (workers : ℕ) (rows : List Row) (order : Order) → order_in workers rows ≡ Some order → order ≡ Time → workers ≡ 1
order-alone workers rows order is time =
    option_and_then_some (order_by workers) (option_and_then order_named (first_of (codes "order") rows)) order is (λ named _ here. by-alone workers named order here time)

from-range : (rows : List Row) (o : Options) → options_from rows ≡ Some o → OptionsInRange o
unfolding options_from
from-range rows o e =
    option_and_then_some _ (mode_in rows) o e (λ mode _ e1.
    option_and_then_some _ (switch_in rows (codes "addresses")) o e1 (λ addresses _ e1'.
    option_and_then_some _ (number_in rows (codes "seed") 0 4294967295) o e1' (λ seed _ e2.
    option_and_then_some _ (number_in rows (codes "workers") 1 16) o e2 (λ workers h3 e3.
    option_and_then_some _ (number_in rows (codes "banks") 1 16) o e3 (λ banks h4 e4.
    option_and_then_some _ (number_in rows (codes "sets") 1 256) o e4 (λ sets h5 e5.
    option_and_then_some _ (number_in rows (codes "ways") 1 16) o e5 (λ ways h6 e6.
    option_and_then_some _ (number_in rows (codes "fuel") 1 32768) o e6 (λ fuel h7 e7.
    option_and_then_some _ (number_in rows (codes "size") 1 128) o e7 (λ size h8 e8.
    option_and_then_some _ (number_in rows (codes "tick-core") 1 1000000) o e8 (λ tick_core h9 e9.
    option_and_then_some _ (number_in rows (codes "tick-bank") 1 1000000) o e9 (λ tick_bank h10 e10.
    option_and_then_some _ (number_in rows (codes "tick-mail") 1 1000000) o e10 (λ tick_mail h11 e11.
    option_and_then_some _ (order_in workers rows) o e11 (λ order h12 e12.
    option_and_then_some _ (number_in rows (codes "latency") 0 1000000) o e12 (λ latency h13 e13.
    option_and_then_some _ (net_in rows) o e13 (λ net _ e14.
    let asked : Options =
    record {
      mode = mode;
      addresses = addresses;
      order = order;
      seed = seed;
      workers = workers;
      banks = banks;
      sets = sets;
      ways = ways;
      fuel = fuel;
      size = size;
      tick_core = tick_core;
      tick_bank = tick_bank;
      tick_mail = tick_mail;
      latency = latency;
      net = net;
    } in
    subst OptionsInRange (same_Some asked o e14)
    (record {
      workers = number-range rows (codes "workers") 1 16 workers h3;
      banks = number-range rows (codes "banks") 1 16 banks h4;
      sets = number-range rows (codes "sets") 1 256 sets h5;
      ways = number-range rows (codes "ways") 1 16 ways h6;
      fuel = number-range rows (codes "fuel") 1 32768 fuel h7;
      size = number-range rows (codes "size") 1 128 size h8;
      tick_core = number-range rows (codes "tick-core") 1 1000000 tick_core h9;
      tick_bank = number-range rows (codes "tick-bank") 1 1000000 tick_bank h10;
      tick_mail = number-range rows (codes "tick-mail") 1 1000000 tick_mail h11;
      latency = number-range rows (codes "latency") 0 1000000 latency h13;
      alone = λ is. order-alone workers rows order h12 is;
    }))))))))))))))))

pub words-range : (words : List Text) (o : Options) → options_of words ≡ Some o → OptionsInRange o
unfolding options_of
words-range words o e = by_faults (faults_in command words) e where
  by_faults : (ks : Kinds) → where_taken ks (options_from (values_in command words)) ≡ Some o → OptionsInRange o
  by_faults [] e = from-range (values_in command words) o e
  by_faults (k ∷ ks) e = absurd (none-some o e)
