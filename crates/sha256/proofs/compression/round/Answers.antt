-- `sha256::compression::round` meets its contract. Assumes nothing.
use Rattle.sha256.specs.Fips180.{T₁, T₂, round}
use Rattle.sha256.proofs.compression.round.Goals as goal

pub returns : goal.returns
unfolding round T₁ T₂
returns c = rw (c.big_sigma1.ensures, c.choose.ensures, c.big_sigma0.ensures, c.majority.ensures)
