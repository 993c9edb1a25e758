use Rattle.std.proofs.Common.{refl, inl, inr}
use Rattle.explain_top.proofs.serving.serve_named.Goals as goal

pub returns-in-Ok : goal.returns-in-Ok
returns-in-Ok g c =
    inl (record {
      text = c.from_vec.result;
      read = rw c.from_vec.ensures c.in-Ok.ensures.text;
      faultless = c.in-Ok.ensures.faultless;
      served = c.serve-in-Ok.ensures.within;
    })

pub returns-in-Err-Failed : goal.returns-in-Err-Failed
returns-in-Err-Failed g c = inr (inl (refl, (c.in-Err-Failed.ensures.failed c.in-Err-Failed.field-0-is, refl)))

pub returns-in-Err-NoMemory : goal.returns-in-Err-NoMemory
returns-in-Err-NoMemory g c = inr (inr (refl, (c.in-Err-NoMemory.ensures.memory c.in-Err-NoMemory.field-0-is, refl)))
