-- The passes of a new hall.
use Rattle.std.proofs.Common.{◌≡◌, ℕ, suc, ◌+◌, List, [], ◌∷◌, ◌++◌, length, sym, refl, ap, ◌∙◌, arith}
use Rattle.std.specs.Prelude.{reverse}
use Rattle.bank_hall.specs.declared.bank.BankIn.{BankIn}
use Rattle.bank_hall.specs.declared.bank.BankOut.{BankOut}
use Rattle.bank_hall.specs.declared.port.PortIn.{PortIn}
use Rattle.bank_hall.specs.declared.port.PortOut.{PortOut}
use Rattle.bank_hall.specs.declared.keeper.KeeperIn.{KeeperIn}
use Rattle.bank_hall.specs.declared.keeper.KeeperOut.{KeeperOut}
use Rattle.bank_hall.specs.Banks.{BankActorParts}
use Rattle.bank_hall.specs.Ports.{PortParts}
use Rattle.bank_hall.specs.Keepers.{KeeperActorParts}
use Rattle.bank_hall.specs.Rows.{Tokens, AreNew}
use Rattle.bank_hall.specs.Halls.{HallView, PassView, AreNewPasses, passes_of}
use Rattle.bank_hall.proofs.StartLemmas.{snoc-append, reverse-push}

passes_last : (bs : List (Tokens BankActorParts BankIn BankOut)) (cs : List (Tokens PortParts PortIn PortOut)) (ks : List (Tokens KeeperActorParts KeeperIn KeeperOut)) (p : PassView) → length cs ≡ length bs → length ks ≡ length bs → passes_of (bs ++ p.banks ∷ []) (cs ++ p.ports ∷ []) (ks ++ p.keeper ∷ []) ≡ passes_of bs cs ks ++ p ∷ []
passes_last [] [] [] p few same = refl
passes_last [] [] (k ∷ ks) p few same = absurd (omega (arith, same))
passes_last [] (c ∷ cs) ks p few same = absurd (omega (arith, few))
passes_last (b ∷ bs) [] ks p few same = absurd (omega (arith, few))
passes_last (b ∷ bs) (c ∷ cs) [] p few same = absurd (omega (arith, same))
passes_last (b ∷ bs) (c ∷ cs) (k ∷ ks) p few same = ap (λ l. record { banks = b; ports = c; keeper = k } ∷ l) (passes_last bs cs ks p (omega (arith, few)) (omega (arith, same)))

-- one more pass was put together, of the last of each
pub tied_more : (bs left_bs : List (Tokens BankActorParts BankIn BankOut)) (cs left_cs : List (Tokens PortParts PortIn PortOut)) (ks left_ks : List (Tokens KeeperActorParts KeeperIn KeeperOut)) (p : PassView) (all new_all first : List PassView) → bs ≡ left_bs ++ p.banks ∷ [] → cs ≡ left_cs ++ p.ports ∷ [] → ks ≡ left_ks ++ p.keeper ∷ [] → length left_cs ≡ length left_bs → length left_ks ≡ length left_bs → new_all ≡ all ++ p ∷ [] → passes_of bs cs ks ++ reverse all ≡ first → passes_of left_bs left_cs left_ks ++ reverse new_all ≡ first
tied_more bs left_bs cs left_cs ks left_ks p all new_all first banks ports keepers few same pushed had =
    ap (λ l. passes_of left_bs left_cs left_ks ++ l) (reverse-push all new_all p pushed) ∙ sym (snoc-append (passes_of left_bs left_cs left_ks) (reverse all) p) ∙ ap (λ l. l ++ reverse all) (sym (ap (λ l. passes_of l cs ks) banks ∙ ap (λ l. passes_of (left_bs ++ p.banks ∷ []) l ks) ports ∙ ap (λ l. passes_of (left_bs ++ p.banks ∷ []) (left_cs ++ p.ports ∷ []) l) keepers ∙ passes_last left_bs left_cs left_ks p few same)) ∙ had

pub passes_length : (bs : List (Tokens BankActorParts BankIn BankOut)) (cs : List (Tokens PortParts PortIn PortOut)) (ks : List (Tokens KeeperActorParts KeeperIn KeeperOut)) → length bs ≡ length cs → length bs ≡ length ks → length (passes_of bs cs ks) ≡ length bs
passes_length [] cs ks p q = refl
passes_length (b ∷ bs) [] ks p q = absurd (omega (arith, p))
passes_length (b ∷ bs) (c ∷ cs) [] p q = absurd (omega (arith, q))
passes_length (b ∷ bs) (c ∷ cs) (k ∷ ks) p q = ap suc (passes_length bs cs ks (omega (arith, p)) (omega (arith, q)))

pub new_passes : (hall : HallView) (n : ℕ) (bs : List (Tokens BankActorParts BankIn BankOut)) (cs : List (Tokens PortParts PortIn PortOut)) (ks : List (Tokens KeeperActorParts KeeperIn KeeperOut)) → length bs ≡ length cs → length bs ≡ length ks → AreNew hall.banks n bs → AreNew hall.ports n cs → AreNew hall.keeper n ks → AreNewPasses hall n (passes_of bs cs ks)
new_passes hall n [] cs ks p q banks ports keepers = tt
new_passes hall n (b ∷ bs) [] ks p q banks ports keepers = absurd (omega (arith, p))
new_passes hall n (b ∷ bs) (c ∷ cs) [] p q banks ports keepers = absurd (omega (arith, q))
new_passes hall n (b ∷ bs) (c ∷ cs) (k ∷ ks) p q banks ports keepers = (
  record {
    fits = record {
      banks = banks.0.fits;
      ports = ports.0.fits;
      keeper = keepers.0.fits;
      port_number = ports.0.numbered ∙ sym banks.0.numbered;
      keeper_number = keepers.0.numbered ∙ sym banks.0.numbered;
    };
    banks = banks.0;
    ports = ports.0;
    keeper = keepers.0;
  },
  new_passes hall (n + 1) bs cs ks (omega (arith, p)) (omega (arith, q)) banks.1 ports.1 keepers.1,
)
