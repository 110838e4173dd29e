-- `c2_session::bytes::page_offset` meets its contract: by the laws of Products.
use mathlib.Core.Path.{refl}
use native.Mathlib.Omega.{arith}
use Rattle.laws.proofs.Products.{product_below}
use Rattle.c2_session.proofs.bytes.page_offset.Goals as goal

pub overflow_mul-result : goal.overflow_mul-result
overflow_mul-result c = omega (arith, product_below 17 32 c.requires c.ranges.size.fits)

pub returns : goal.returns
returns c = record { value = refl; upper_bound = product_below 17 32 c.requires c.ranges.size.fits }
