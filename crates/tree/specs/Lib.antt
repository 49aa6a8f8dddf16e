-- Trees of labels, in the order of the text:
-- Tree     the bytes of a tree, building, appending, the label of a run of places
-- Kept     the statements: a tree that came from a build and appends tells the labels summed item by item
-- Private  for contracts of functions that only the calls on trees use
pub mod Tree
pub mod Kept
pub mod Private
