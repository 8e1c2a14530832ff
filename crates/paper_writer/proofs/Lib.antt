mod Fills
mod PaperReadBack
mod ReadBack
mod Refusals
