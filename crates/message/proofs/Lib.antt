-- Exact      what it is for a reading to be exact
-- Varints    reading and spelling varints: exact; the width of a spelling, `Varints.as_few_as_possible`
-- Order      keys order bounds as time and bytes do, `Order.keys_order`
-- Forms      bounds and payloads as the code holds them
-- Bounds, Messages   reading and spelling bounds, payloads, ranges and messages: exact. Law 1 is `Messages.exact`
-- ReadingOrder   a bound is compared before the mode is read
-- Meaning    law 2, `Meaning.meaning`
-- Tidying    ranges with one more behind them
pub mod Exact
pub mod Varints
pub mod Order
pub mod Forms
pub mod Bounds
pub mod Messages
pub mod ReadingOrder
pub mod Meaning
pub mod Tidying
